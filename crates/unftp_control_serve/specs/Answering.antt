-- What one call of a session leaves.
use Rattle.std.specs.Prelude.{◌≡◌, ◌<◌, ◌+◌, ℕ, Option, Result, IfErr, IfOk, IfSome, OnErr, OnOk}
use Rattle.unftp_control_defs.specs.Events.{FtpEvent}
use Rattle.unftp_control_defs.specs.Run.{Follows, SessionLaw}
use Rattle.unftp_control_message.specs.ErrorMeaning.{fault_of}
use Rattle.unftp_control_message.specs.ReplyMeaning.{reply_of}
use Rattle.unftp_control_message.specs.declared.reply.Reply.{Reply}
use Rattle.unftp_control_message.specs.declared.reply.error.ControlChanError.{ControlChanError}
use Rattle.unftp_control_serve.specs.EventMeaning.{further_of}

-- By a law, from one state to another; the numbers say how often the session has failed before the
-- call and after it.
module _ {S : Type 0} (law : SessionLaw S) (before after : S) (failures failures' : ℕ) where
  -- The first reply to an event, or an error that may come at it.
  pub record FirstAnswer (event : FtpEvent) (result : Result Reply ControlChanError) : Type 0 where
    pub says : IfOk result (λ reply. reply_of reply ≡ law.says before event)
    pub next : OnOk result (after ≡ law.next before event)
    pub quiet : OnOk result (failures' ≡ failures)
    pub may_fail : IfErr result (λ error. law.may_fail before event (fault_of error))
    pub counted : OnErr result (failures' ≡ failures + 1)

  -- The next reply, and then a smaller number is left; or none; or an error that may come there.
  pub record FurtherAnswer (left : S → ℕ) (result : Result (Option Reply) ControlChanError)
      : Type 0 where
    pub follows : IfOk result (λ reply. Follows law before (further_of reply) after)
    pub fewer : IfOk result (λ reply. IfSome reply (λ _. left after < left before))
    pub quiet : OnOk result (failures' ≡ failures)
    pub may_break : IfErr result (λ error. law.may_break before (fault_of error))
    pub counted : OnErr result (failures' ≡ failures + 1)
