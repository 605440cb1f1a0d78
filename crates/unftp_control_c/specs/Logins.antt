-- What a server in C keeps of a login (RFC 959, section 4.1.1), and what an event is to it, by its
-- number.
use Rattle.std.specs.Prelude.{◌≡◌, ℕ, ◌==◌, ◌||◌, Bool, if◌then◌else◌, List, [], ◌∷◌}
use Rattle.unftp_control_defs.specs.Events.{FtpEvent}
use Rattle.unftp_control_login.specs.Gate.{stage_by}
use Rattle.unftp_control_login.specs.Login.{Accounts, role_of}
use Rattle.unftp_control_login.specs.declared.stage.LoginStep.{LoginStep}
use Rattle.unftp_control_login.specs.declared.stage.LoginStep.TheVariants.{PassOn, NeedPassword, AskAccounts, NeedName, NeedLogin}
use Rattle.unftp_control_login.specs.declared.stage.Progress.{Progress}
use Rattle.unftp_control_login.specs.declared.stage.Progress.TheVariants.{NoName, Named, LoggedIn, Asked}
use Rattle.unftp_control_login.specs.declared.stage.Role.{Role}
use Rattle.unftp_control_login.specs.declared.stage.Role.TheVariants.{Open}
use Rattle.unftp_control_login.specs.declared.stage.Stage.{Stage}
use Rattle.unftp_control_c.specs.Next.{given_for}
use Rattle.unftp_control_c.specs.Numbers.{status_number}
use Rattle.unftp_control_c.specs.declared.status.Status.TheVariants.{InvalidCommand, InvalidUtf8, InvalidEol, LineTooLong, OutOfMemory}

-- How far a login has come, by the number that the caller keeps: any other is as no name.
abbrev pub progress_of : ℕ → Progress
progress_of stage = if stage == 1 then Named else (if stage == 2 then LoggedIn else
    (if stage == 3 then Asked else NoName))

-- the number that the caller keeps
abbrev pub stage_number : Progress → ℕ
stage_number NoName = 0
stage_number Named = 1
stage_number LoggedIn = 2
stage_number Asked = 3

-- the numbers of the steps for C
abbrev pub step_number : LoginStep → ℕ
step_number PassOn = 0
step_number NeedPassword = 1
step_number AskAccounts = 2
step_number NeedName = 3
step_number NeedLogin = 4

-- the number of a line that is refused, or for which memory ran out
abbrev pub is_refused : ℕ → Bool
is_refused n = (n == status_number InvalidCommand) || ((n == status_number InvalidUtf8)
    || ((n == status_number InvalidEol) || ((n == status_number LineTooLong)
    || (n == status_number OutOfMemory))))

-- What an event is to a login, by its number.
abbrev pub event_role : ℕ → Role
event_role n = if is_refused n then Open else role_of n

-- What is kept after an event, by its number: the name of USER, and what the accounts answer to
-- PASS, which uses the name up.
abbrev pub kept_after : Accounts → Stage → FtpEvent → Stage
kept_after accepts kept event = stage_by (event_role (given_for event).number) accepts kept event

-- The same is kept of a login: a name counts only while a password is to follow it.
pub record KeepsSame (kept other : Stage) : Type 0 where
  pub progress : kept.progress ≡ other.progress
  pub name : kept.progress ≡ Named → kept.name ≡ other.name

-- what is kept after the events
abbrev pub kept_after_all : Accounts → Stage → List FtpEvent → Stage
kept_after_all accepts kept [] = kept
kept_after_all accepts kept (event ∷ events) =
    kept_after_all accepts (kept_after accepts kept event) events
