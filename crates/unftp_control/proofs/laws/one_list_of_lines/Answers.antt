use Rattle.unftp_control_defs.proofs.LineLemmas.{Lines-lines_of, Lines-unique}
use Rattle.unftp_control.proofs.laws.one_list_of_lines.Goals as goal

pub returns : goal.returns
returns c = record { computed = Lines-lines_of; only = Lines-unique }
