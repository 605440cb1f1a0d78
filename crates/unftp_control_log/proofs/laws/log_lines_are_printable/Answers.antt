use Rattle.unftp_control_log.proofs.PrintableLemmas.{log_line_prints}
use Rattle.unftp_control_log.proofs.laws.log_lines_are_printable.Goals as goal

pub returns : goal.returns
returns c = log_line_prints
