use Rattle.std.proofs.Common.{Some}
use Rattle.unftp_control_defs.specs.Input.{input_state_of}
use Rattle.unftp_control_serve.specs.Writing.{output_state_of}
use Rattle.example_callers.proofs.LogLemmas.{Logging}
use Rattle.example_callers.proofs.log.log_lines.Given as goal

abbrev pub invariant-loop-turn : goal.invariant-loop-turn
invariant-loop-turn g l = Logging (Some 8192)
    (output_state_of g.W.Write.contents l.fn.writer) (output_state_of g.W.Write.contents l.writer)
    (input_state_of g.R.Read.remaining l.fn.reader) (input_state_of g.R.Read.remaining l.reader)
    l.decoder l._turn
