use Rattle.unftp_control_defs.proofs.EscapeLemmas.{outcome-escaped}
use Rattle.unftp_control.proofs.laws.escape_reads_back.Goals as goal

pub returns : goal.returns
returns c = outcome-escaped
