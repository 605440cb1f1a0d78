use Rattle.std.proofs.Common.{◌≡◌, true, false, refl, subst}
use Rattle.std.proofs.lemmas.Bool.{false≢true}
use Rattle.unftp_control_login.specs.Examples.{anna, anna_and_ben, ben, only_anna, wrong}
use Rattle.unftp_control_login.proofs.ExampleLemmas.{gave, given-name}
use Rattle.unftp_control_login.proofs.examples.accounts_answer_alike.Goals as goal

-- after a name, and one password of it
pub returns-clause-alike : goal.returns-clause-alike
returns-clause-alike c = (
  refl,
  (
    λ name given. subst (λ name. only_anna name wrong ≡ anna_and_ben name wrong)
        (given-name only_anna anna name given) refl,
    tt,
  ),
)

pub returns-clause-asked : goal.returns-clause-asked
returns-clause-asked c = λ alike.
    let told : false ≡ true = alike.1.0 ben (gave ben) in absurd (false≢true told)
