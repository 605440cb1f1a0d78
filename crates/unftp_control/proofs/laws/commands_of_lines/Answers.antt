use Rattle.unftp_control_defs.specs.Canonical.{canonical_line}
use Rattle.unftp_control_defs.proofs.CanonicalLineEndLemmas.{IsLine-canonical_line}
use Rattle.unftp_control_defs.proofs.CanonicalLineLemmas.{outcome-canonical_line}
use Rattle.unftp_control_defs.proofs.CommandLineLemmas.{HasLine-outcome, HasTypedFields-outcome}
use Rattle.unftp_control.proofs.laws.commands_of_lines.Goals as goal

pub returns : goal.returns
returns c = λ command. (
  (λ has. (
    canonical_line command,
    IsLine-canonical_line command has.0,
    outcome-canonical_line command has.0 has.1,
  )),
  (λ has. (
    HasLine-outcome has.0 command has.1 has.2,
    HasTypedFields-outcome has.0 command has.1 has.2,
  )),
)
