-- One call after another.
use Rattle.std.proofs.Common.{◌≡◌, ℕ, ◌+◌, List, ◌++◌, [], ◌∷◌, Option, inl, inr, ap, sym, ◌∙◌, subst, arith}
use Rattle.std.specs.Prelude.{Result, Ok, Err, IfErr, MatchResult, OnOk, OnErr}
use Rattle.unftp_control_defs.specs.Events.{Fault, FtpEvent}
use Rattle.unftp_control_defs.specs.FtpReply.{FtpReply}
use Rattle.unftp_control_defs.specs.Run.{SessionLaw, state_after}
use Rattle.unftp_control_message.specs.ErrorMeaning.{fault_of}
use Rattle.unftp_control_message.specs.declared.reply.error.ControlChanError.{ControlChanError}
use Rattle.unftp_control_message.specs.declared.reply.Reply.{Reply}
use Rattle.unftp_control_serve.specs.Answering.{FirstAnswer, FurtherAnswer}
use Rattle.unftp_control_login.specs.HandlerCalls.{AllCalled, AsksFurther, HandlerCall, CallState, CallsMade, FailedCall, FailsIn, Makes, Passes, Plan, asks_for, called, failed_at, tells}

counted : (call : HandlerCall) (state : CallState)
    → (failed_at call state).refused + (failed_at call state).failed
    ≡ state.refused + state.failed + 1
counted (Makes reply) state = omega arith
counted call state = omega arith

module _ {S : Type 0} (after : CallState) where
  all-quiet : (plan : Plan S) (before : CallState) → AllCalled plan before after
      → after.refused + after.failed ≡ before.refused + before.failed
  all-quiet [] before all = ap (λ (state : CallState). state.refused + state.failed) all
  all-quiet ((call, s) ∷ plan) before all = all-quiet plan (called call before) all

-- One of them that failed.
module _ {S : Type 0} (law : SessionLaw S) (after : CallState) (fault : Fault) where
  failed-first : (first second : Plan S) (before : CallState)
      → FailedCall law first before after fault
      → FailedCall law (first ++ second) before after fault
  failed-first [] second before one = absurd one
  failed-first ((call, s) ∷ first) second before (inl here) = inl here
  failed-first ((call, s) ∷ first) second before (inr later) =
      inr (failed-first first second (called call before) later)

  failed-counted : (plan : Plan S) (before : CallState) → FailedCall law plan before after fault
      → after.refused + after.failed ≡ before.refused + before.failed + 1
  failed-counted [] before failed = absurd failed
  failed-counted ((call, s) ∷ plan) before (inl here) =
      ap (λ (state : CallState). state.refused + state.failed) here.1
      ∙ counted call (called call before)
  failed-counted ((call, s) ∷ plan) before (inr later) =
      failed-counted plan (called call before) later

  failed-fails : (plan : Plan S) (before : CallState) → FailedCall law plan before after fault
      → FailsIn law plan fault
  failed-fails [] before failed = failed
  failed-fails ((call, s) ∷ plan) before (inl here) = inl here.0
  failed-fails ((call, s) ∷ plan) before (inr later) =
      inr (failed-fails plan (called call before) later)

-- All calls of a plan, and then those of a second one, by the result.
abbrev Made : {S T : Type 0} → SessionLaw S → Plan S → CallState → CallState
    → Result T ControlChanError → Type 0
Made law plan before after result = MatchResult result (λ _. AllCalled plan before after)
    (λ error. FailedCall law plan before after (fault_of error))

made-then : {S T : Type 0} (law : SessionLaw S) (first second : Plan S)
    (before between after : CallState) (result : Result T ControlChanError)
    → AllCalled first before between → Made law second between after result
    → Made law (first ++ second) before after result
made-then {T = T} law [] second before between after result one two =
    subst (λ state. Made law second state after result) one two
made-then {T = T} law ((call, s) ∷ first) second before between after (Ok value) one two =
    made-then {T = T} law first second (called call before) between after (Ok value) one two
made-then {T = T} law ((call, s) ∷ first) second before between after (Err error) one two =
    inr (made-then {T = T} law first second (called call before) between after (Err error) one
    two)

module _ {S T U : Type 0} {law : SessionLaw S} {first : Plan S} {before : CallState} where
  pub then-made : {second : Plan S} {between after : CallState} {value : T}
      (result : Result U ControlChanError) → CallsMade law first before between (Ok value)
      → CallsMade law second between after result
      → CallsMade law (first ++ second) before after result
  then-made {second} {between} {after} result one two =
      record { made = made-then law first second before between after result one.made two.made }

  pub made-first : (second : Plan S) {after : CallState} {error : ControlChanError}
      → CallsMade {T = T} law first before after (Err error)
      → CallsMade {T = U} law (first ++ second) before after (Err error)
  made-first second {after} {error} one =
      record { made = failed-first law after (fault_of error) first second before one.made }

-- What follows from the calls: how a result counts, and how it may fail.
module _ {S T : Type 0} {law : SessionLaw S} {plan : Plan S} {before after : CallState} where
  pub made-quiet : (result : Result T ControlChanError) → CallsMade law plan before after result
      → OnOk result (after.refused + after.failed ≡ before.refused + before.failed)
  made-quiet (Ok value) calls = all-quiet after plan before calls.made
  made-quiet (Err error) calls = tt

  pub made-counted : (result : Result T ControlChanError) → CallsMade law plan before after result
      → OnErr result (after.refused + after.failed ≡ before.refused + before.failed + 1)
  made-counted (Ok value) calls = tt
  made-counted (Err error) calls =
      failed-counted law after (fault_of error) plan before calls.made

  pub made-fails : (result : Result T ControlChanError) → CallsMade law plan before after result
      → IfErr result (λ error. FailsIn law plan (fault_of error))
  made-fails (Ok value) calls = tt
  made-fails (Err error) calls =
      failed-fails law after (fault_of error) plan before calls.made

-- One call of the handler, which counts its own failures.
abbrev with_failures : List HandlerCall → ℕ → ℕ → CallState
with_failures calls refused failures =
    record { calls = calls; refused = refused; failed = failures }

module _ {S : Type 0} {law : SessionLaw S} {s s' : S} {failures failures' : ℕ} (calls : List HandlerCall)
    (refused : ℕ) where
  pub first-made : {event : FtpEvent} (result : Result Reply ControlChanError)
      → FirstAnswer law s s' failures failures' event result
      → CallsMade law ((Passes event, s) ∷ []) (with_failures calls refused failures)
      (with_failures (calls ++ Passes event ∷ []) refused failures') result
  first-made {event} (Ok reply) answer =
      record { made = ap (with_failures (calls ++ Passes event ∷ []) refused) answer.quiet }
  first-made {event} (Err error) answer = record {
    made = inl (answer.may_fail, ap (with_failures (calls ++ Passes event ∷ []) refused) answer.counted);
  }

  pub further-made : {left : S → ℕ} (result : Result (Option Reply) ControlChanError)
      → FurtherAnswer law s s' failures failures' left result
      → CallsMade law ((AsksFurther, s) ∷ []) (with_failures calls refused failures)
      (with_failures (calls ++ AsksFurther ∷ []) refused failures') result
  further-made (Ok reply) answer =
      record { made = ap (with_failures (calls ++ AsksFurther ∷ []) refused) answer.quiet }
  further-made (Err error) answer = record {
    made = inl (answer.may_break, ap (with_failures (calls ++ AsksFurther ∷ []) refused) answer.counted);
  }

-- The event was received, and some of the replies that follow were given: what comes of asking for
-- the others, in the state that the handler has now, comes of the whole.
pub record Draining {S : Type 0} (law : SessionLaw S) (s : S) (event : FtpEvent) (now : S)
    (before between : CallState) : Type 0 where
  pub state : state_after now (law.more now)
      ≡ state_after (law.next s event) (law.more (law.next s event))
  pub calls : (after : CallState) (result : Result (Unit {0}) ControlChanError)
      → CallsMade law (asks_for now (law.more now)) between after result
      → CallsMade law (tells law s event) before after result

module _ {S T : Type 0} (law : SessionLaw S) {s now : S} {event : FtpEvent}
    {before between : CallState} where
  pub Draining-start : {value : T} → now ≡ law.next s event
      → CallsMade law ((Passes event, s) ∷ []) before between (Ok value)
      → Draining law s event now before between
  Draining-start next made = record {
    state = ap (λ now. state_after now (law.more now)) next;
    calls = λ after result later. then-made result made (rw next at later);
  }

  module _ {after : CallState} (so_far : Draining law s event now before between) where
    pub Draining-next : {value : T} (reply : FtpReply) (next : S)
        → law.more now ≡ (reply, next) ∷ law.more next
        → CallsMade law ((AsksFurther, now) ∷ []) between after (Ok value)
        → Draining law s event next before after
    Draining-next reply next follows made = record {
      state = ap (state_after now) (sym follows) ∙ so_far.state;
      calls = λ after result later. so_far.calls after result
          (subst (λ steps. CallsMade law (asks_for now steps) between after result) (sym follows)
          (then-made result made later));
    }

    pub Draining-end : {value : T} → law.more now ≡ []
        → CallsMade law ((AsksFurther, now) ∷ []) between after (Ok value)
        → (now ≡ state_after (law.next s event) (law.more (law.next s event)))
        × CallsMade {T = Unit {0}} law (tells law s event) before after (Ok tt)
    Draining-end none made = (
      ap (state_after now) (sym none) ∙ so_far.state,
      so_far.calls after (Ok tt)
          (subst (λ steps. CallsMade {T = Unit {0}} law (asks_for now steps) between after (Ok tt))
          (sym none) (record { made = made.made })),
    )

    pub Draining-broke : {error : ControlChanError}
        → CallsMade {T = T} law ((AsksFurther, now) ∷ []) between after (Err error)
        → CallsMade {T = Unit {0}} law (tells law s event) before after (Err error)
    Draining-broke {error} made = so_far.calls after (Err error) (made-first _ made)
