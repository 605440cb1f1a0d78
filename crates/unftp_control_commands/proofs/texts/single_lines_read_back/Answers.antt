use Rattle.unftp_control_commands.proofs.SingleLineLemmas.{Lacks-single_line, single_line-injective}
use Rattle.unftp_control_commands.proofs.texts.single_lines_read_back.Goals as goal

pub returns : goal.returns
returns c = record { no_line_feed = Lacks-single_line; read_back = single_line-injective }
