use Rattle.std.proofs.Common.{◌≡◌, false, [], ◌∷◌, refl}
use Rattle.unftp_control_defs.specs.FtpReply.{CodeAndMsg}
use Rattle.std.specs.Fmt.{digits}
use Rattle.unftp_control.proofs.laws.examples.definitions.turns.turns_are_so.Goals as goal

pub returns : goal.returns
unfolding digits
returns c = (
  refl,
  refl,
  refl,
  (refl, refl),
  λ f. let none : (CodeAndMsg 226 [], false) ∷ [] ≡ [] = f.0 in absurd (cc),
  λ f. absurd (cc),
  λ f. absurd (cc),
  λ s event. (refl, refl),
)
