use Rattle.unftp_control_serve.proofs.EventLineLemmas.{line_after-taken, refuses_length-exceeds}
use Rattle.unftp_control.proofs.laws.lines_of_events.Goals as goal

pub returns : goal.returns
returns c = record {
  line = λ before after event taken. line_after-taken (Unit {0}) event taken;
  too_long = λ limit line. refuses_length-exceeds limit line;
}
