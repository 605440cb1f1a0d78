use Rattle.std.proofs.Common.{length}
use Rattle.unftp_control_serve.specs.Writing.{output_state_of}
use Rattle.unftp_control_serve.proofs.SendLemmas.{Sending}
use Rattle.unftp_control_serve.proofs.send.write_whole.Given as goal

abbrev pub invariant-loop-rest : goal.invariant-loop-rest
invariant-loop-rest g l =
    Sending l.bytes l.rest
    (output_state_of g.W.Write.contents l.fn.output)
    (output_state_of g.W.Write.contents l.output)

abbrev pub decreases-loop-rest : goal.decreases-loop-rest
decreases-loop-rest g l = length l.rest
