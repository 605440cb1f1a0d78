use Rattle.std.proofs.Common.{◌≡◌, true, false, [], ◌∷◌, ◌++◌, ap, bytes_eq, refl}
use Rattle.std.proofs.lemmas.Bool.{false≢true}
use Rattle.unftp_control_defs.specs.FtpCommand.{Noop, Pwd}
use Rattle.unftp_control_defs.specs.Events.{Command}
use Rattle.unftp_control_login.specs.declared.stage.Stage.{Stage}
use Rattle.unftp_control_login.specs.Examples.{anna, login, only_anna, pass, secret, user, wrong}
use Rattle.unftp_control_login.proofs.ExampleLemmas.{not-logged-in}
use Rattle.unftp_control_login.proofs.StageLemmas.{GaveName-stage}
use Rattle.unftp_control_login.proofs.examples.a_client_logs_in.Goals as goal

pub returns-clause-member : goal.returns-clause-member
returns-clause-member c = record {
  before = user anna ∷ Command Noop ∷ [];
  password = secret;
  since = Command Pwd ∷ pass wrong ∷ [];
  whole = refl;
  named = record { before = []; since = Command Noop ∷ []; whole = refl; kept = (refl, tt) };
  accepted = refl;
  kept = (refl, (refl, tt));
}

pub returns-clause-nothing_sent : goal.returns-clause-nothing_sent
returns-clause-nothing_sent c = not-logged-in only_anna [] refl

pub returns-clause-wrong_password : goal.returns-clause-wrong_password
returns-clause-wrong_password c = not-logged-in only_anna (user anna ∷ pass wrong ∷ []) refl

pub returns-clause-other_name : goal.returns-clause-other_name
returns-clause-other_name c = not-logged-in only_anna (user wrong ∷ pass secret ∷ []) refl

pub returns-clause-second_password : goal.returns-clause-second_password
returns-clause-second_password c =
    not-logged-in only_anna (user anna ∷ pass wrong ∷ pass secret ∷ []) refl

pub returns-clause-another_user : goal.returns-clause-another_user
returns-clause-another_user c = not-logged-in only_anna (login ++ user wrong ∷ []) refl

pub returns-clause-name_given : goal.returns-clause-name_given
returns-clause-name_given c =
    record { before = user wrong ∷ []; since = Command Noop ∷ []; whole = refl; kept = (refl, tt) }

pub returns-clause-name_changed : goal.returns-clause-name_changed
returns-clause-name_changed c = λ h.
    let same : wrong ≡ anna =
    ap (λ (stage : Stage). stage.name) (GaveName-stage only_anna anna (user anna ∷ user wrong ∷ []) h) in
    let first : false ≡ true = ap (λ name. bytes_eq name anna) same in absurd (false≢true first)
