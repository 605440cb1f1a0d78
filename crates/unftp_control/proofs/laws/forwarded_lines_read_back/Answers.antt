use Rattle.unftp_control_defs.proofs.ForwardedLineLemmas.{IsLine-forwarded_line, outcome-forwarded_line, verb_of-forwarded_line, parameter_of-forwarded_line}
use Rattle.unftp_control.proofs.laws.forwarded_lines_read_back.Goals as goal

pub returns : goal.returns
returns c = record {
  line = IsLine-forwarded_line;
  read_back = outcome-forwarded_line;
  verb = verb_of-forwarded_line;
  parameter = parameter_of-forwarded_line;
}
