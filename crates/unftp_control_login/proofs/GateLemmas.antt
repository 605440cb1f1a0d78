-- What a gate leaves of an event, by what it decides.
use Rattle.std.proofs.Common.{◌≡◌, ℕ, true, false, ◌||◌, ◌++◌, Option, Some, None, refl, ap, ◌∙◌}
use Rattle.std.specs.Prelude.{Result, Ok, Err, OnOk}
use Rattle.std.proofs.lemmas.Bool.{cond_both}
use Rattle.std.proofs.lemmas.Result.{on_ok_weaker}
use Rattle.unftp_control_defs.specs.Bytes.{Bytes}
use Rattle.unftp_control_defs.specs.Events.{FtpEvent, Command, is_quit}
use Rattle.unftp_control_defs.specs.FtpCommand.{User}
use Rattle.unftp_control_defs.specs.FtpReply.{FtpReply}
use Rattle.unftp_control_defs.specs.Run.{Follows, SessionLaw, after as session_after}
use Rattle.unftp_control_message.specs.declared.reply.Reply.{Reply}
use Rattle.unftp_control_message.specs.declared.reply.error.ControlChanError.{ControlChanError}
use Rattle.unftp_control_serve.specs.Answering.{FirstAnswer}
use Rattle.unftp_control_login.specs.HandlerCalls.{CallsMade, tells}
use Rattle.unftp_control_login.specs.CallsOf.{calls_of, failures_of}
use Rattle.unftp_control_login.specs.Login.{Accounts}
use Rattle.unftp_control_login.specs.LoginLimit.{is_last, too_many}
use Rattle.unftp_control_login.specs.Gate.{Answers, LogsIn, Refuses, attempts_after, decided, decides, decision_at, is_passed, limited, logged_in, name_needed, not_accepted, passes_on, password_in, questions, stage_after}
use Rattle.unftp_control_login.specs.GateState.{Decided, asked_gate, gated}
use Rattle.unftp_control_login.specs.Asked.{AskedGate, asked_law}
use Rattle.unftp_control_login.specs.declared.gate.Gate.{Gate}
use Rattle.unftp_control_login.specs.declared.inner.Inner.{Inner}
use Rattle.unftp_control_login.specs.declared.stage.LoginStep.{LoginStep}
use Rattle.unftp_control_login.specs.declared.stage.LoginStep.TheVariants.{AskAccounts, NeedName}
use Rattle.unftp_control_login.proofs.CalledLemmas.{made-counted, made-fails, made-quiet, then-made}

-- A login: the handler was told the name, and then memory was asked for the reply.
pub logs-in : {H S T : Type 0} {state : H → S} {failures : H → ℕ} {law : SessionLaw S}
    {before between after : Inner H} {name : Bytes} {told : T}
    (result : Result Reply ControlChanError)
    → state between.handler ≡ session_after law (state before.handler) (Command (User name))
    → CallsMade law (tells law (state before.handler) (Command (User name)))
    (calls_of failures before) (calls_of failures between) (Ok told)
    → Decided state failures law between after (Answers logged_in) result
    → Decided state failures law before after (LogsIn name) result
logs-in {law = law} result same told own = record {
  says = own.says;
  next = on_ok_weaker result (λ next. next ∙ same) own.next;
  calls = then-made result told (rw same at own.calls);
}

-- A gate does what it decides, and its accounts are asked what follows from the event.
pub gate-answers : {A H S : Type 0} (accepts : A → Accounts) (state : H → S) (failures : H → ℕ)
    (law : SessionLaw S) (before after : Gate A H) (event : FtpEvent)
    (result : Result Reply ControlChanError)
    → Decided state failures law before.inner after.inner
    (decides (gated accepts state before) event) result
    → accepts after.accounts.accounts ≡ accepts before.accounts.accounts
    → after.limit.left ≡ attempts_after before.limit.left
    (decided (accepts before.accounts.accounts) before.stage event)
    → OnOk result (after.stage
    ≡ stage_after (accepts before.accounts.accounts) before.stage event)
    → after.quit ≡ (before.quit || is_quit event)
    → after.passed ≡ is_passed (decides (gated accepts state before) event)
    → after.accounts.questions ≡ before.accounts.questions ++ questions before.stage event
    → FirstAnswer (asked_law law) (asked_gate accepts state before)
    (asked_gate accepts state after)
    (failures_of failures before.inner) (failures_of failures after.inner) event result
gate-answers accepts state failures law before after event (Ok reply) does same left stage quit
    passed asked = record {
      says = does.says;
      next = λ i. record {
        gate = record {
          accepts = same i;
          left = left i;
          stage = stage i;
          quit = quit i;
          passed = passed i;
          inner = does.next i;
        };
        asked = asked i;
      };
      quiet = made-quiet (Ok reply) does.calls;
      may_fail = tt;
      counted = tt;
    }
gate-answers accepts state failures law before after event (Err error) does same left stage quit
    passed asked = record {
      says = tt;
      next = tt;
      quiet = tt;
      may_fail = made-fails (Err error) does.calls;
      counted = made-counted (Err error) does.calls;
    }

-- An answer of the gate's own is not passed on, nor is one in its place.
refused-stays : (left : Option ℕ) (reply : FtpReply) → false ≡ is_passed (limited left (Refuses reply))
refused-stays left reply = cond_both (is_last left) (Refuses too_many) (Refuses reply)
    (λ decision. false ≡ is_passed decision) (λ _. refl) (λ _. refl)

pub passed-at : (left : Option ℕ) (step : LoginStep) (accepts : Accounts) (name : Bytes)
    (event : FtpEvent) → passes_on step ≡ is_passed (limited left (decision_at step accepts name event))
passed-at left AskAccounts accepts name event =
    cond_both (accepts name (password_in event)) (LogsIn name) (Refuses not_accepted)
    (λ decision. false ≡ is_passed (limited left decision)) (λ _. refl)
    (λ _. refused-stays left not_accepted)
passed-at left NeedName accepts name event = refused-stays left name_needed
passed-at left step accepts name event = refl

-- the handler's replies that follow are the gate's
pub passes-on : {S : Type 0} (law : SessionLaw S) (s : AskedGate S) {s' : AskedGate S}
    (more : Option FtpReply) → s.gate.passed ≡ true
    → s' ≡ record s { gate = record s.gate { inner = s'.gate.inner } }
    → Follows law s.gate.inner more s'.gate.inner → Follows (asked_law law) s more s'
passes-on law s None passed kept follows = (
  rw (passed, follows.0) refl,
  kept ∙ ap (λ inner. record s { gate = record s.gate { inner = inner } }) follows.1,
)
passes-on law s (Some reply) passed kept follows = rw (kept) (rw (passed, follows) refl)
