-- What a server in C does with an event is what a login gate does.
use Rattle.std.proofs.Common.{◌≡◌, ◌≢◌, Bool, true, false, List, [], ◌∷◌, Some, not, ◌&&◌, refl, sym, ap, subst, ◌∙◌}
use Rattle.std.proofs.lemmas.Bool.{false≢true}
use Rattle.unftp_control_defs.specs.Bytes.{Bytes}
use Rattle.unftp_control_defs.specs.Events.{Fault, FaultKind, FaultSource, FtpEvent, Command, Parse, Refused}
use Rattle.unftp_control_defs.specs.Events as kinds
use Rattle.unftp_control_defs.specs.FtpCommand.{InvalidCommand, InvalidEol, InvalidUtf8, Quit}
use Rattle.unftp_control_login.specs.Gate.{decided, decision_at, is_logged_in, nobody, stage_after, stage_after_all, stage_by}
use Rattle.unftp_control_login.specs.Login.{Accounts, is_closed, login_step, needs_login, role_in}
use Rattle.unftp_control_login.specs.declared.stage.LoginStep.TheVariants.{PassOn}
use Rattle.unftp_control_login.specs.declared.stage.Progress.{Progress}
use Rattle.unftp_control_login.specs.declared.stage.Progress.TheVariants.{NoName, Named, LoggedIn, Asked}
use Rattle.unftp_control_login.specs.declared.stage.Role.{Role}
use Rattle.unftp_control_login.specs.declared.stage.Role.TheVariants.{Closed, Name, Open}
use Rattle.unftp_control_login.specs.declared.stage.Stage.{Stage}
use Rattle.unftp_control_login.proofs.StageLemmas.{IsLoggedIn-stage, logged_in-stage, passed-step}
use Rattle.unftp_control_c.specs.Next.{given_for}
use Rattle.unftp_control_c.specs.Numbers.{fault_status, source_status, status_number, status_of_kind}
use Rattle.unftp_control_c.specs.Logins.{KeepsSame, event_role, kept_after, kept_after_all, progress_of, stage_number}
use Rattle.unftp_control_c.proofs.laws.logins_are_gated.Goals as goal

-- a refused line needs no login
refused_role : (fault : Fault) → event_role (status_number (fault_status fault)) ≡ Open
refused_role fault = by_kind fault.kind where
  by_source : (source : FaultSource) → event_role (status_number (source_status source)) ≡ Open
  by_source (Parse (Some InvalidCommand)) = refl
  by_source (Parse (Some InvalidUtf8)) = refl
  by_source (Parse (Some InvalidEol)) = refl
  by_source _ = refl

  by_kind : (kind : FaultKind)
      → event_role (status_number (status_of_kind kind (source_status fault.source))) ≡ Open
  by_kind kinds.OutOfMemory = refl
  by_kind kinds.LineTooLong = refl
  by_kind _ = by_source fault.source

-- by its number an event is to a login what it is
roles : (event : FtpEvent) → event_role (given_for event).number ≡ role_in event
roles (Refused fault) = refused_role fault
roles (Command Quit) = refl
roles (Command command) = refl

stages : (accepts : Accounts) (kept : Stage) (event : FtpEvent)
    → kept_after accepts kept event ≡ stage_after accepts kept event
stages accepts kept event = ap (λ role. stage_by role accepts kept event) (roles event)

all_stages : (accepts : Accounts) (kept : Stage) (events : List FtpEvent)
    → kept_after_all accepts kept events ≡ stage_after_all accepts kept events
all_stages accepts kept [] = refl
all_stages accepts kept (event ∷ events) = all_stages accepts (kept_after accepts kept event) events
    ∙ ap (λ stage. stage_after_all accepts stage events) (stages accepts kept event)

-- a name is read only where a password is to follow it
module _ (accepts : Accounts) (event : FtpEvent) (name other : Bytes) where
  abbrev with_name : Progress → Bytes → Stage
  with_name progress name = record { progress = progress; name = name }

  abbrev IsUnread : Progress → Role → Type 0
  IsUnread progress role = (decision_at (login_step progress role) accepts name event
      ≡ decision_at (login_step progress role) accepts other event)
      × KeepsSame (stage_by role accepts (with_name progress name) event)
      (stage_by role accepts (with_name progress other) event)

  unread : (progress : Progress) (role : Role) → progress ≢ Named → IsUnread progress role
  unread Named role none = absurd (none refl)
  unread progress Name none = (refl, record { progress = refl; name = λ named. refl })
  unread NoName role none = (refl, record { progress = refl; name = λ named. absurd (cc) })
  unread LoggedIn role none = (refl, record { progress = refl; name = λ named. absurd (cc) })
  unread Asked role none = (refl, record { progress = refl; name = λ named. absurd (cc) })

  by_progress : (progress : Progress) (role : Role) → (progress ≡ Named → name ≡ other)
      → IsUnread progress role
  by_progress Named role same = (
    ap (λ name. decision_at (login_step Named role) accepts name event) (same refl),
    record {
      progress = ap (λ name. (stage_by role accepts (with_name Named name) event).progress)
          (same refl);
      name = λ named. ap (λ name. (stage_by role accepts (with_name Named name) event).name)
          (same refl);
    },
  )
  by_progress NoName role same = unread NoName role (λ e. absurd (cc))
  by_progress LoggedIn role same = unread LoggedIn role (λ e. absurd (cc))
  by_progress Asked role same = unread Asked role (λ e. absurd (cc))

member : (progress : Progress) (role : Role) → is_closed role ≡ true
    → login_step progress role ≡ PassOn → is_logged_in progress ≡ true
member LoggedIn role needs step = refl
member progress Closed needs step = absurd (cc)
member progress role needs step = absurd (false≢true needs)

none : (needs : Bool) → (needs && not true) ≡ false
none true = refl
none false = refl

numbered : (progress : Progress) → progress_of (stage_number progress) ≡ progress
numbered NoName = refl
numbered Named = refl
numbered LoggedIn = refl
numbered Asked = refl

names : (accepts : Accounts) (kept other : Stage) (event : FtpEvent) → KeepsSame kept other
    → (decided accepts kept event ≡ decided accepts other event)
    × KeepsSame (kept_after accepts kept event) (kept_after accepts other event)
names accepts kept other event same =
    let by_role = by_progress accepts event kept.name other.name kept.progress in
    subst (λ progress. (decided accepts kept event
    ≡ decided accepts (record other { progress = progress }) event)
    × KeepsSame (kept_after accepts kept event)
    (kept_after accepts (record other { progress = progress }) event)) same.progress (
      (by_role (role_in event) same.name).0,
      (by_role (event_role (given_for event).number) same.name).1,
    )

pub returns : goal.returns
returns c = record {
  decided = λ accepts kept event.
      ap (λ role. decision_at (login_step kept.progress role) accepts kept.name event)
      (sym (roles event));
  stage = stages;
  names = names;
  members = λ accepts before event needs step.
      let kept = kept_after_all accepts nobody before in
      logged_in-stage accepts before
      (ap (λ (stage : Stage). is_logged_in stage.progress) (sym (all_stages accepts nobody before))
      ∙ member kept.progress (role_in event) needs
      (ap (login_step kept.progress) (sym (roles event)) ∙ step));
  served = λ accepts before event is other.
      let kept = kept_after_all accepts nobody before in
      let logged : kept.progress ≡ LoggedIn =
      ap (λ (stage : Stage). stage.progress) (all_stages accepts nobody before)
      ∙ IsLoggedIn-stage accepts before is in
      ap (login_step kept.progress) (roles event)
      ∙ passed-step kept.progress event other
      (ap (λ progress. needs_login event && not (is_logged_in progress)) logged
      ∙ none (needs_login event));
  numbers = numbered;
  zero = refl;
}
