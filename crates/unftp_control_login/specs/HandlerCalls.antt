-- What a gate calls: the accounts, the handler after them, and memory for replies of
-- their own.
use Rattle.std.specs.Prelude.{◌≡◌, ℕ, ◌+◌, List, [], ◌∷◌, ◌++◌, map, ◌⊎◌, Option, Some, None, Result, MatchResult}
use Rattle.unftp_control_defs.specs.Bytes.{Bytes}
use Rattle.unftp_control_defs.specs.Events.{Fault, FtpEvent, out_of_memory}
use Rattle.unftp_control_defs.specs.FtpReply.{FtpReply}
use Rattle.unftp_control_defs.specs.Run.{SessionLaw}
use Rattle.unftp_control_message.specs.ErrorMeaning.{fault_of}
use Rattle.unftp_control_message.specs.declared.reply.error.ControlChanError.{ControlChanError}

-- The accounts are asked whether the second, a password, is that of the first, a name. The handler
-- receives an event; or it is asked for the next of the replies that follow. Or memory is asked for
-- a reply.
pub data HandlerCall : Type 0 where
  Asks : Bytes → Bytes → HandlerCall
  Passes : FtpEvent → HandlerCall
  AsksFurther : HandlerCall
  Makes : FtpReply → HandlerCall

-- Calls that are to be made one after the other, each with the state of the handler in which it may
-- fail. A call for memory may fail in any.
abbrev pub Plan : Type 0 → Type 0
Plan S = List (HandlerCall × S)

abbrev pub calls_in : {S : Type 0} → Plan S → List HandlerCall
calls_in plan = map (λ planned. planned.0) plan

-- The handler is asked for the first of these replies that follow, and after each of them once
-- more: then there is none.
abbrev pub asks_for : {S : Type 0} → S → List (FtpReply × S) → Plan S
asks_for s steps = (AsksFurther, s) ∷ map (λ step. (AsksFurther, step.1)) steps

-- It receives an event, and is asked for all replies that follow.
abbrev pub tells : {S : Type 0} → SessionLaw S → S → FtpEvent → Plan S
tells law s event = (Passes event, s) ∷ asks_for (law.next s event) (law.more (law.next s event))

-- Memory is asked for a reply of one's own, if there is one.
abbrev pub makes : {S : Type 0} → S → Option FtpReply → Plan S
makes s None = []
makes s (Some reply) = (Makes reply, s) ∷ []

-- with which faults a call may fail: that of the handler as its law says, and that of the accounts
-- with none
abbrev pub MayFailAt : {S : Type 0} → SessionLaw S → S → HandlerCall → Fault → Type 0
MayFailAt law s (Asks name password) fault = ⊥
MayFailAt law s (Passes event) fault = law.may_fail s event fault
MayFailAt law s AsksFurther fault = law.may_break s fault
MayFailAt law s (Makes reply) fault = fault ≡ out_of_memory

-- one of the calls may fail so
abbrev pub FailsIn : {S : Type 0} → SessionLaw S → Plan S → Fault → Type 0
FailsIn law [] fault = ⊥
FailsIn law ((call, s) ∷ plan) fault = MayFailAt law s call fault ⊎ FailsIn law plan fault

-- The calls so far, how often memory was refused, and how often the handler has failed.
pub record CallState : Type 0 where
  pub calls : List HandlerCall
  pub refused : ℕ
  pub failed : ℕ

-- after one more call, and where it failed
abbrev pub called : HandlerCall → CallState → CallState
called call state = record state { calls = state.calls ++ call ∷ [] }

abbrev pub failed_at : HandlerCall → CallState → CallState
failed_at (Makes reply) state = record state { refused = state.refused + 1 }
failed_at call state = record state { failed = state.failed + 1 }

-- Each of these calls was made once, and none failed.
abbrev pub AllCalled : {S : Type 0} → Plan S → CallState → CallState → Type 0
AllCalled [] before after = after ≡ before
AllCalled ((call, s) ∷ plan) before after = AllCalled plan (called call before) after

-- One of them failed so, and none after it was made.
abbrev pub FailedCall : {S : Type 0} → SessionLaw S → Plan S → CallState → CallState → Fault
    → Type 0
FailedCall law [] before after fault = ⊥
FailedCall law ((call, s) ∷ plan) before after fault =
    (MayFailAt law s call fault × (after ≡ failed_at call (called call before)))
    ⊎ FailedCall law plan (called call before) after fault

-- which of the two, by the result
pub record CallsMade {S T : Type 0} (law : SessionLaw S) (plan : Plan S) (before after : CallState)
    (result : Result T ControlChanError) : Type 0 where
  pub made : MatchResult result (λ _. AllCalled plan before after)
      (λ error. FailedCall law plan before after (fault_of error))
