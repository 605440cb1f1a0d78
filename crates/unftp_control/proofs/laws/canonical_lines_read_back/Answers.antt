use Rattle.unftp_control_defs.proofs.CanonicalLineEndLemmas.{IsLine-canonical_line}
use Rattle.unftp_control_defs.proofs.CanonicalLineLemmas.{outcome-canonical_line}
use Rattle.unftp_control.proofs.laws.canonical_lines_read_back.Goals as goal

pub returns : goal.returns
returns c = record { line = IsLine-canonical_line; read_back = outcome-canonical_line }
