use Rattle.std.proofs.Common.{[], ◌∷◌, codes, refl}
use Rattle.unftp_control_defs.specs.LossyText.{ended, character, ill_formed}
use Rattle.unftp_control.proofs.laws.examples.definitions.lossy.ill_formed_parts_are_replaced.Goals as goal

pub returns-clause-empty : goal.returns-clause-empty
returns-clause-empty c = ended

pub returns-clause-parts : goal.returns-clause-parts
returns-clause-parts c =
    ill_formed (255 ∷ 226 ∷ 130 ∷ codes "b") _ 1 (λ e. cc) refl
    (ill_formed (226 ∷ 130 ∷ codes "b") _ 2 (λ e. cc) refl
    (character (codes "b") [] 1 refl ended))
