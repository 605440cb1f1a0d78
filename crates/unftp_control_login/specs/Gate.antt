-- A login gate before a handler: what it answers itself, and what it passes on to the handler.
use Rattle.std.specs.Prelude.{List, [], ◌∷◌, ◌++◌, map, Bool, true, false, if◌then◌else◌, ◌&&◌, ◌||◌, ℕ, Option, Some, None, codes}
use Rattle.unftp_control_defs.specs.Bytes.{Bytes}
use Rattle.unftp_control_defs.specs.FtpCommand.{User, Pass}
use Rattle.unftp_control_defs.specs.Events.{FtpEvent, Command, is_quit}
use Rattle.unftp_control_defs.specs.FtpReply.{FtpReply, CodeAndMsg}
use Rattle.unftp_control_defs.specs.Run.{SessionLaw, after}
use Rattle.unftp_control_login.specs.declared.stage.LoginStep.{LoginStep}
use Rattle.unftp_control_login.specs.declared.stage.LoginStep.TheVariants.{AskAccounts, NeedLogin, NeedName, NeedPassword, PassOn}
use Rattle.unftp_control_login.specs.declared.stage.Progress.{Progress}
use Rattle.unftp_control_login.specs.declared.stage.Progress.TheVariants.{LoggedIn, NoName}
use Rattle.unftp_control_login.specs.declared.stage.Role.{Role}
use Rattle.unftp_control_login.specs.declared.stage.Stage.{Stage}
use Rattle.unftp_control_login.specs.Login.{Accounts, after_answer, login_after, login_step, role_in}
use Rattle.unftp_control_login.specs.LoginLimit.{is_last, is_used_up, one_fewer, too_many}
use Rattle.unftp_control_login.specs.HandlerCalls.{Asks, AsksFurther, HandlerCall, FailsIn, Passes, Plan, makes, tells}

-- its replies (RFC 959, section 5.4)
abbrev pub password_needed : FtpReply
password_needed = CodeAndMsg 331 (codes "User name okay, need password")

abbrev pub logged_in : FtpReply
logged_in = CodeAndMsg 230 (codes "User logged in, proceed")

abbrev pub not_accepted : FtpReply
not_accepted = CodeAndMsg 530 (codes "Login incorrect")

abbrev pub name_needed : FtpReply
name_needed = CodeAndMsg 503 (codes "Send USER first")

abbrev pub login_needed : FtpReply
login_needed = CodeAndMsg 530 (codes "Log in with USER and PASS")

abbrev pub is_logged_in : Progress → Bool
is_logged_in LoggedIn = true
is_logged_in progress = false

-- a login before the first event
abbrev pub nobody : Stage
nobody = record { progress = NoName; name = [] }

-- what USER and PASS give
abbrev pub name_in : FtpEvent → Bytes
name_in (Command (User name)) = name
name_in event = []

abbrev pub password_in : FtpEvent → Bytes
password_in (Command (Pass password)) = password
password_in event = []

-- a name is good for one password
abbrev pub name_after : LoginStep → Bytes → FtpEvent → Bytes
name_after NeedPassword name event = name_in event
name_after AskAccounts name event = []
name_after step name event = name

-- where the login is after an answer of the accounts, where this step asks them
abbrev pub answered_at : LoginStep → Bool → Progress → Progress
answered_at AskAccounts accepted progress = after_answer accepted progress
answered_at step accepted progress = progress

abbrev pub answered_stage : LoginStep → Accounts → Stage → FtpEvent → Stage
answered_stage step accepts stage event = record {
  progress = answered_at step (accepts stage.name (password_in event)) stage.progress;
  name = name_after step stage.name event;
}

-- and after an event that is this to it
abbrev pub stage_by : Role → Accounts → Stage → FtpEvent → Stage
stage_by role accepts stage event = answered_stage (login_step stage.progress role) accepts
    (record stage { progress = login_after stage.progress role }) event

abbrev pub stage_after : Accounts → Stage → FtpEvent → Stage
stage_after accepts stage event = stage_by (role_in event) accepts stage event

abbrev pub stage_after_all : Accounts → Stage → List FtpEvent → Stage
stage_after_all accepts stage [] = stage
stage_after_all accepts stage (event ∷ events) =
    stage_after_all accepts (stage_after accepts stage event) events

-- What the gate does with an event: it answers it itself, by which a login may be refused; or it
-- logs this name in, of which the handler learns by USER. Or it passes the event on, and all
-- replies to it are the handler's.
pub data GateDecision : Type 0 where
  Answers : FtpReply → GateDecision
  Refuses : FtpReply → GateDecision
  LogsIn : Bytes → GateDecision
  PassesOn : FtpEvent → GateDecision

abbrev pub decision_at : LoginStep → Accounts → Bytes → FtpEvent → GateDecision
decision_at PassOn accepts name event = PassesOn event
decision_at NeedPassword accepts name event = Answers password_needed
decision_at AskAccounts accepts name event =
    if accepts name (password_in event) then LogsIn name else Refuses not_accepted
decision_at NeedName accepts name event = Refuses name_needed
decision_at NeedLogin accepts name event = Answers login_needed

abbrev pub decided : Accounts → Stage → FtpEvent → GateDecision
decided accepts stage event =
    decision_at (login_step stage.progress (role_in event)) accepts stage.name event

-- whether a step passes the event on
abbrev pub passes_on : LoginStep → Bool
passes_on PassOn = true
passes_on step = false

-- A login that is refused is one that fails. The last that may has another answer.
abbrev pub is_refusal : GateDecision → Bool
is_refusal (Refuses reply) = true
is_refusal decision = false

abbrev pub limited : Option ℕ → GateDecision → GateDecision
limited left decision = if is_refusal decision && is_last left then Refuses too_many else decision

abbrev pub attempts_after : Option ℕ → GateDecision → Option ℕ
attempts_after left decision = if is_refusal decision then one_fewer left else left

abbrev pub is_passed : GateDecision → Bool
is_passed (PassesOn event) = true
is_passed decision = false

-- What follows from a decision, where the handler is in this state.
module _ {S : Type 0} (law : SessionLaw S) (s : S) where
  abbrev pub reply_by : GateDecision → FtpReply
  reply_by (Answers reply) = reply
  reply_by (Refuses reply) = reply
  reply_by (LogsIn name) = logged_in
  reply_by (PassesOn event) = law.says s event

  -- The handler's state after it: its replies to USER are dropped.
  abbrev pub state_by : GateDecision → S
  state_by (Answers reply) = s
  state_by (Refuses reply) = s
  state_by (LogsIn name) = after law s (Command (User name))
  state_by (PassesOn event) = law.next s event

  -- what is called for the first reply
  abbrev pub calls_by : GateDecision → Plan S
  calls_by (Answers reply) = makes s (Some reply)
  calls_by (Refuses reply) = makes s (Some reply)
  calls_by (LogsIn name) =
      tells law s (Command (User name))
      ++ makes (after law s (Command (User name))) (Some logged_in)
  calls_by (PassesOn event) = (Passes event, s) ∷ []

  -- and for all of them
  abbrev pub all_calls_by : GateDecision → Plan S
  all_calls_by (PassesOn event) = tells law s event
  all_calls_by decision = calls_by decision

-- What the accounts are asked: whether a password that comes after a name is that of the name.
abbrev pub asked_at : LoginStep → Bytes → FtpEvent → List HandlerCall
asked_at AskAccounts name event = Asks name (password_in event) ∷ []
asked_at step name event = []

abbrev pub questions : Stage → FtpEvent → List HandlerCall
questions stage event = asked_at (login_step stage.progress (role_in event)) stage.name event

-- The accounts, which stay; how many more logins may fail, if they are limited; and how far the
-- login has come. Then whether QUIT has come; whether the event at hand was passed on; and what the
-- handler keeps.
pub record Gated (S : Type 0) : Type 0 where
  pub accepts : Accounts
  pub left : Option ℕ
  pub stage : Stage
  pub quit : Bool
  pub passed : Bool
  pub inner : S

abbrev pub decides : {S : Type 0} → Gated S → FtpEvent → GateDecision
decides s event = limited s.left (decided s.accepts s.stage event)

-- the handler's replies are the gate's, of which nothing else changes
abbrev pub passed_steps : {S : Type 0} → Gated S → List (FtpReply × S) → List (FtpReply × Gated S)
passed_steps s steps = map (λ step. (step.0, record s { inner = step.1 })) steps

-- and what is called for the next of them
abbrev pub further_calls : {S : Type 0} → Gated S → Plan S
further_calls s = if s.passed then (AsksFurther, s.inner) ∷ [] else []

-- The law of a gate. Its errors are those of the calls for an event: the handler's, or out of
-- memory for a reply of the gate's own.
abbrev pub gated_law : {S : Type 0} → SessionLaw S → SessionLaw (Gated S)
gated_law law = record {
  says = λ s event. reply_by law s.inner (decides s event);
  next = λ s event. record {
    accepts = s.accepts;
    left = attempts_after s.left (decided s.accepts s.stage event);
    stage = stage_after s.accepts s.stage event;
    quit = s.quit || is_quit event;
    passed = is_passed (decides s event);
    inner = state_by law s.inner (decides s event);
  };
  more = λ s. if s.passed then passed_steps s (law.more s.inner) else [];
  may_fail = λ s event. FailsIn law (calls_by law s.inner (decides s event));
  may_break = λ s. FailsIn law (further_calls s);
  done = λ s. (s.quit || is_used_up s.left) || law.done s.inner;
}

-- a gate before the first event, and the same gate without a limit
abbrev pub closed : {S : Type 0} → Accounts → S → Gated S
closed accepts inner = record {
  accepts = accepts;
  left = None;
  stage = nobody;
  quit = false;
  passed = false;
  inner = inner;
}

abbrev pub unlimited : {S : Type 0} → Gated S → Gated S
unlimited s = record s { left = None }
