-- What the examples need beside computation.
use Rattle.std.proofs.Common.{◌≡◌, false, List, [], ◌∷◌, refl, sym, ap, ◌∙◌}
use Rattle.std.proofs.lemmas.Bool.{false≢true}
use Rattle.unftp_control_defs.specs.Bytes.{Bytes}
use Rattle.unftp_control_defs.specs.Events.{FtpEvent}
use Rattle.unftp_control_login.specs.declared.stage.Stage.{Stage}
use Rattle.unftp_control_login.specs.Login.{Accounts, GaveName, IsLoggedIn}
use Rattle.unftp_control_login.specs.Gate.{is_logged_in, nobody, stage_after_all}
use Rattle.unftp_control_login.specs.Examples.{user}
use Rattle.unftp_control_login.proofs.StageLemmas.{GaveName-stage, IsLoggedIn-stage}

-- no login where the stage that computes isn't one
pub not-logged-in : (accepts : Accounts) (events : List FtpEvent)
    → is_logged_in (stage_after_all accepts nobody events).progress ≡ false
    → ¬ IsLoggedIn accepts events
not-logged-in accepts events stage h =
    absurd (false≢true (sym stage ∙ ap is_logged_in (IsLoggedIn-stage accepts events h)))

-- the name that is kept is the last one given
pub given-name : (accepts : Accounts) (one name : Bytes) → GaveName name (user one ∷ [])
    → one ≡ name
given-name accepts one name given =
    ap (λ (stage : Stage). stage.name) (GaveName-stage accepts name (user one ∷ []) given)

pub gave : (one : Bytes) → GaveName one (user one ∷ [])
gave one = record { before = []; since = []; whole = refl; kept = tt }
