use Rattle.std.proofs.Common.{length}
use Rattle.unftp_control_serve.specs.Writing.{output_state_of}
use Rattle.example_callers.proofs.LogLemmas.{Halfway}
use Rattle.example_callers.proofs.log.log_pending.Given as goal

abbrev pub invariant-loop-event : goal.invariant-loop-event
invariant-loop-event g l = Halfway l.fn.decoder.limit l.fn.decoder.bytes l.decoder
    (output_state_of g.W.Write.contents l.fn.writer) (output_state_of g.W.Write.contents l.writer)

abbrev pub decreases-loop-event : goal.decreases-loop-event
decreases-loop-event g l = length l.decoder.bytes
