-- How far a login has come, and the events that it comes from.
use Rattle.std.proofs.Common.{◌≡◌, Bool, true, false, not, ◌&&◌, cond, List, [], ◌∷◌, ◌++◌, map, refl, sym, ap, ◌∙◌, subst, append_assoc}
use Rattle.std.specs.Prelude.{if◌then◌else◌}
use Rattle.std.specs.List.{AllByRecursion}
use Rattle.std.proofs.lemmas.List.{append-nil}
use Rattle.std.proofs.lemmas.Bool.{cond_both, false≢true}
use Rattle.unftp_control_defs.specs.Bytes.{Bytes}
use Rattle.unftp_control_defs.specs.FtpCommand.{User, Pass, Auth}
use Rattle.unftp_control_defs.specs.Events.{FtpEvent, Command}
use Rattle.unftp_control_defs.specs.FtpReply.{FtpReply}
use Rattle.unftp_control_defs.specs.Run.{SessionLaw, turn_replies, state_after}
use Rattle.unftp_control_defs.proofs.ExchangeLemmas.{all-append}
use Rattle.unftp_control_login.specs.declared.stage.LoginStep.TheVariants.{NeedLogin, PassOn}
use Rattle.unftp_control_login.specs.declared.stage.Progress.{Progress}
use Rattle.unftp_control_login.specs.declared.stage.Progress.TheVariants.{LoggedIn, Named, NoName}
use Rattle.unftp_control_login.specs.declared.stage.Role.{Role}
use Rattle.unftp_control_login.specs.declared.stage.Role.TheVariants.{Closed, Name, Password}
use Rattle.unftp_control_login.specs.declared.stage.Stage.{Stage}
use Rattle.unftp_control_login.specs.Login.{Accounts, GaveName, IsLoggedIn, KeepsLogin, KeepsName, is_closed, is_login, login_step, needs_login, role_in}
use Rattle.unftp_control_login.specs.Gate.{Gated, gated_law, is_logged_in, nobody, passed_steps, stage_after, stage_after_all}
use Rattle.unftp_control_login.specs.LoginLimit.{is_pass}

-- Replies with the states after them, of which the states are changed.
abbrev pub Steps : Type 0 → Type 0
Steps S = List (FtpReply × S)

module _ {S T : Type 0} (other_of : S → T) where
  abbrev pub lifted : Steps S → Steps T
  lifted steps = map (λ step. (step.0, other_of step.1)) steps

  pub turn_replies-lifted : (steps : Steps S) → turn_replies (lifted steps) ≡ turn_replies steps
  turn_replies-lifted [] = refl
  turn_replies-lifted (step ∷ steps) = ap (λ replies. step.0 ∷ replies) (turn_replies-lifted steps)

  pub after-lifted : (s : S) (steps : Steps S)
      → state_after (other_of s) (lifted steps) ≡ other_of (state_after s steps)
  after-lifted s [] = refl
  after-lifted s (step ∷ steps) = after-lifted step.1 steps

  pub lifted-lifted : {U : Type 0} (more_of : T → U) (steps : Steps S)
      → map {B = FtpReply × U} (λ step. (step.0, more_of step.1)) (lifted steps)
      ≡ map (λ step. (step.0, more_of (other_of step.1))) steps
  lifted-lifted more_of [] = refl
  lifted-lifted more_of (step ∷ steps) =
      ap (λ later. (step.0, more_of (other_of step.1)) ∷ later) (lifted-lifted more_of steps)

stage_after_all-append : (accepts : Accounts) (stage : Stage) (events more : List FtpEvent)
    → stage_after_all accepts stage (events ++ more) ≡ stage_after_all accepts
    (stage_after_all accepts stage events) more
stage_after_all-append accepts stage [] more = refl
stage_after_all-append accepts stage (event ∷ events) more =
    stage_after_all-append accepts (stage_after accepts stage event) events more

-- The handler's replies that follow are the gate's, where the event was passed on: none changes
-- more than the handler's state.
abbrev pub passed_more : {S : Type 0} → SessionLaw S → Gated S → Steps S
passed_more law s = if s.passed then law.more s.inner else []

pub gate-more : {S : Type 0} (law : SessionLaw S) (s : Gated S) → (gated_law law).more s
    ≡ lifted (λ inner. record s { inner = inner }) (passed_more law s)
gate-more law s = by_passed s.passed where
  by_passed : (passed : Bool) → cond passed (passed_steps s (law.more s.inner)) []
      ≡ lifted (λ inner. record s { inner = inner }) (cond passed (law.more s.inner) [])
  by_passed true = refl
  by_passed false = refl

pub gate-after : {S : Type 0} (law : SessionLaw S) (s : Gated S)
    → state_after s ((gated_law law).more s)
    ≡ record s { inner = state_after s.inner (passed_more law s) }
gate-after law s = ap (state_after s) (gate-more law s)
    ∙ after-lifted (λ inner. record s { inner = inner }) s.inner (passed_more law s)

-- The events that a stage comes from.
abbrev pub ReasonAt : Accounts → Progress → Bytes → List FtpEvent → Type 0
ReasonAt accepts Named name past = GaveName name past
ReasonAt accepts LoggedIn name past = IsLoggedIn accepts past
ReasonAt accepts progress name past = Unit {0}

abbrev pub Reason : Accounts → Stage → List FtpEvent → Type 0
Reason accepts stage past = ReasonAt accepts stage.progress stage.name past

one_more : {past : List FtpEvent} (before since : List FtpEvent) (mark event : FtpEvent)
    → past ≡ before ++ mark ∷ since
    → past ++ event ∷ [] ≡ before ++ mark ∷ (since ++ event ∷ [])
one_more before since mark event e = ap (λ l. l ++ event ∷ []) e
    ∙ append_assoc before (mark ∷ since) (event ∷ [])

login_stays : {accepts : Accounts} {past : List FtpEvent} (event : FtpEvent) → KeepsLogin event
    → IsLoggedIn accepts past → IsLoggedIn accepts (past ++ event ∷ [])
login_stays event keeps (name, h) = (
  name,
  record {
    before = h.before;
    password = h.password;
    since = h.since ++ event ∷ [];
    whole = one_more h.before h.since (Command (Pass h.password)) event h.whole;
    named = h.named;
    accepted = h.accepted;
    kept = all-append KeepsLogin h.since (event ∷ []) h.kept (keeps, tt);
  },
)

name_stays : {name : Bytes} {past : List FtpEvent} (event : FtpEvent) → KeepsName event
    → GaveName name past → GaveName name (past ++ event ∷ [])
name_stays {name} event keeps h = record {
  before = h.before;
  since = h.since ++ event ∷ [];
  whole = one_more h.before h.since (Command (User name)) event h.whole;
  kept = all-append KeepsName h.since (event ∷ []) h.kept (keeps, tt);
}

abbrev pub stage_at : Progress → Bytes → Stage
stage_at progress name = record { progress = progress; name = name }

pub reason-after : (accepts : Accounts) (progress : Progress) (name : Bytes) (past : List FtpEvent)
    (event : FtpEvent) → ReasonAt accepts progress name past
    → Reason accepts (stage_after accepts (stage_at progress name) event) (past ++ event ∷ [])
reason-after accepts progress name past (Command (User other)) h =
    record { before = past; since = []; whole = refl; kept = tt }
reason-after accepts progress name past (Command (Auth mechanism)) h = tt
reason-after accepts Named name past (Command (Pass password)) h =
    cond_both (accepts name password) LoggedIn NoName
    (λ progress. ReasonAt accepts progress [] (past ++ Command (Pass password) ∷ []))
    (λ e. (
      name,
      record {
        before = past;
        password = password;
        since = [];
        whole = refl;
        named = h;
        accepted = e;
        kept = tt;
      },
    )) (λ _. tt)
reason-after accepts Named name past event h = name_stays event refl h
reason-after accepts LoggedIn name past event h = login_stays event refl h
reason-after accepts progress name past event h = tt

pub reason : (accepts : Accounts) (stage : Stage) (past events : List FtpEvent)
    → Reason accepts stage past
    → Reason accepts (stage_after_all accepts stage events) (past ++ events)
reason accepts stage past [] h = subst (Reason accepts stage) (sym (append-nil past)) h
reason accepts stage past (event ∷ events) h =
    subst (Reason accepts (stage_after_all accepts (stage_after accepts stage event) events))
    (append_assoc past (event ∷ []) events)
    (reason accepts (stage_after accepts stage event) (past ++ event ∷ []) events
    (reason-after accepts stage.progress stage.name past event h))

logged_in-reason : {accepts : Accounts} (progress : Progress) (name : Bytes) {past : List FtpEvent}
    → ReasonAt accepts progress name past → is_logged_in progress ≡ true
    → IsLoggedIn accepts past
logged_in-reason LoggedIn name h e = h
logged_in-reason progress name h e = absurd (false≢true e)

-- One who is at that stage has logged in,
pub logged_in-stage : (accepts : Accounts) (events : List FtpEvent)
    → is_logged_in (stage_after_all accepts nobody events).progress ≡ true
    → IsLoggedIn accepts events
logged_in-stage accepts events e =
    let stage = stage_after_all accepts nobody events in
    logged_in-reason stage.progress stage.name (reason accepts nobody [] events tt) e

-- and one who has given a name, or logged in, is at that stage.
abbrev Keeps : Progress → FtpEvent → Type 0
Keeps Named event = KeepsName event
Keeps LoggedIn event = KeepsLogin event
Keeps progress event = ⊥

keeps : (accepts : Accounts) (progress : Progress) (name : Bytes) (event : FtpEvent)
    → Keeps progress event
    → stage_after accepts (stage_at progress name) event ≡ stage_at progress name
keeps accepts Named name (Command (User other)) kept = absurd (false≢true (sym kept))
keeps accepts Named name (Command (Pass password)) kept = absurd kept
keeps accepts Named name (Command (Auth mechanism)) kept = absurd (false≢true (sym kept))
keeps accepts Named name event kept = refl
keeps accepts LoggedIn name (Command (User other)) kept = absurd (false≢true (sym kept))
keeps accepts LoggedIn name (Command (Auth mechanism)) kept = absurd (false≢true (sym kept))
keeps accepts LoggedIn name event kept = refl
keeps accepts progress name event kept = absurd kept

keeps_all : (accepts : Accounts) (progress : Progress) (name : Bytes) (since : List FtpEvent)
    → AllByRecursion (Keeps progress) since
    → stage_after_all accepts (stage_at progress name) since ≡ stage_at progress name
keeps_all accepts progress name [] kept = refl
keeps_all accepts progress name (event ∷ since) kept =
    ap (λ stage. stage_after_all accepts stage since) (keeps accepts progress name event kept.0)
    ∙ keeps_all accepts progress name since kept.1

pub GaveName-stage : (accepts : Accounts) (name : Bytes) (events : List FtpEvent)
    → GaveName name events
    → stage_after_all accepts nobody events ≡ record { progress = Named; name = name }
GaveName-stage accepts name events h =
    ap (stage_after_all accepts nobody) h.whole
    ∙ stage_after_all-append accepts nobody h.before (Command (User name) ∷ h.since)
    ∙ keeps_all accepts Named name h.since h.kept

pub IsLoggedIn-stage : (accepts : Accounts) (events : List FtpEvent) → IsLoggedIn accepts events
    → (stage_after_all accepts nobody events).progress ≡ LoggedIn
IsLoggedIn-stage accepts events (name, h) = ap (λ (stage : Stage). stage.progress)
    (ap (stage_after_all accepts nobody) h.whole
    ∙ stage_after_all-append accepts nobody h.before (Command (Pass h.password) ∷ h.since)
    ∙ ap (λ stage. stage_after_all accepts (stage_after accepts stage (Command (Pass h.password)))
    h.since) (GaveName-stage accepts name h.before h.named)
    ∙ ap (λ test. stage_after_all accepts (stage_at (cond test LoggedIn NoName) []) h.since)
    h.accepted
    ∙ keeps_all accepts LoggedIn [] h.since h.kept)

-- What is done with an event that needs a login, and with one that needs none or comes after one.
pub closed-step : (progress : Progress) (role : Role) → is_closed role ≡ true
    → login_step progress role ≡ cond (is_logged_in progress) PassOn NeedLogin
closed-step LoggedIn Closed needs = refl
closed-step progress Closed needs = refl
closed-step progress role needs = absurd (false≢true needs)

abbrev gives : Role → Bool
gives Name = true
gives Password = true
gives role = false

pub login-role : (event : FtpEvent) → is_login event ≡ gives (role_in event)
login-role (Command (User name)) = refl
login-role (Command (Pass password)) = refl
login-role event = refl

open-step : (progress : Progress) (role : Role) → gives role ≡ false
    → (is_closed role && not (is_logged_in progress)) ≡ false → login_step progress role ≡ PassOn
open-step progress Name other free = absurd (false≢true (sym other))
open-step progress Password other free = absurd (false≢true (sym other))
open-step LoggedIn Closed other free = refl
open-step progress Closed other free = absurd (false≢true (sym free))
open-step progress role other free = refl

pub passed-step : (progress : Progress) (event : FtpEvent) → is_login event ≡ false
    → (needs_login event && not (is_logged_in progress)) ≡ false
    → login_step progress (role_in event) ≡ PassOn
passed-step progress event other free =
    open-step progress (role_in event) (sym (login-role event) ∙ other) free

-- PASS, by what it is to a login
abbrev pub is_password : Role → Bool
is_password Password = true
is_password role = false

pub password-role : (event : FtpEvent) → is_pass event ≡ is_password (role_in event)
password-role (Command (Pass password)) = refl
password-role event = refl
