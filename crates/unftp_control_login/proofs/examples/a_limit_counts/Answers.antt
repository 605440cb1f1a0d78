use Rattle.std.proofs.Common.{[], ◌∷◌, refl}
use Rattle.unftp_control_login.specs.Examples.{here}
use Rattle.unftp_control_login.proofs.examples.a_limit_counts.Goals as goal

pub returns-clause-last : goal.returns-clause-last
returns-clause-last c = (refl, here ∷ [], refl)
