-- The usual replies and those of a login, by the numbers that a caller has of an event and a step.
use Rattle.std.specs.Prelude.{ℕ, ◌==◌, ◌&&◌, Bool, if◌then◌else◌, nat_le, nat_lt, Option, None, Some, Ok, Err}
use Rattle.unftp_control_defs.specs.Bytes.{Bytes}
use Rattle.unftp_control_defs.specs.FtpCommand as refusal
use Rattle.unftp_control_defs.specs.FtpCommand.{number}
use Rattle.unftp_control_defs.specs.FtpReply.{FtpReply, encoded}
use Rattle.unftp_control_defs.specs.declared.verb.Verb.TheVariants as verb
use Rattle.unftp_control_commands.specs.UsualReplies.{long_line, no_memory, refusal_reply, reply_by_number}
use Rattle.unftp_control_login.specs.Gate.{Answers, GateDecision, LogsIn, PassesOn, Refuses, logged_in, login_needed, name_needed, not_accepted, password_needed}
use Rattle.unftp_control_login.specs.declared.stage.LoginStep.{LoginStep}
use Rattle.unftp_control_login.specs.declared.stage.LoginStep.TheVariants.{AskAccounts, NeedLogin, NeedName, NeedPassword, PassOn}
use Rattle.unftp_control_c.specs.declared.status.Status.TheVariants.{InvalidArgument, InvalidCommand, InvalidEol, InvalidUtf8, LineTooLong, OutOfMemory}
use Rattle.unftp_control_c.specs.Areas.{Made}
use Rattle.unftp_control_c.specs.Logins.{step_number}
use Rattle.unftp_control_c.specs.Numbers.{status_number}

-- the number of a command
abbrev pub is_command_number : ℕ → Bool
is_command_number n = nat_le (number verb.User) n && nat_le n (number verb.Other)

-- the reply to a line that is refused, or for which memory ran out
abbrev pub refusal_by_number : ℕ → Option FtpReply
refusal_by_number n =
    if n == status_number InvalidCommand then Some (refusal_reply refusal.InvalidCommand) else
    (if n == status_number InvalidUtf8 then Some (refusal_reply refusal.InvalidUtf8) else
    (if n == status_number InvalidEol then Some (refusal_reply refusal.InvalidEol) else
    (if n == status_number LineTooLong then Some long_line else
    (if n == status_number OutOfMemory then Some no_memory else None))))

-- the usual reply to an event; none to what is no number of one
abbrev pub event_reply : ℕ → Bytes → Option FtpReply
event_reply n value =
    if is_command_number n then Some (reply_by_number n value) else refusal_by_number n

abbrev pub encoded_or_invalid : Option FtpReply → Made
encoded_or_invalid None = Err InvalidArgument
encoded_or_invalid (Some reply) = Ok (encoded reply)

-- the bytes of the usual reply, or an invalid argument where the number is that of no event
abbrev pub usual_bytes : ℕ → Bytes → Made
usual_bytes n value = encoded_or_invalid (event_reply n value)

-- the step of a number; an event is passed on at any other
abbrev pub step_of : ℕ → LoginStep
step_of n = if n == step_number NeedPassword then NeedPassword else
    (if n == step_number AskAccounts then AskAccounts else
    (if n == step_number NeedName then NeedName else
    (if n == step_number NeedLogin then NeedLogin else PassOn)))

-- The reply at a step, and after what the accounts answer. An event that is passed on has none.
abbrev pub step_reply : LoginStep → Bool → Option FtpReply
step_reply PassOn accepted = None
step_reply NeedPassword accepted = Some password_needed
step_reply AskAccounts accepted = Some (if accepted then logged_in else not_accepted)
step_reply NeedName accepted = Some name_needed
step_reply NeedLogin accepted = Some login_needed

-- the bytes of the reply at the step of a number, or an invalid argument where it has none
abbrev pub login_bytes : ℕ → ℕ → Made
login_bytes step accepted = encoded_or_invalid (step_reply (step_of step) (nat_lt 0 accepted))

-- the reply of a gate's own to an event, which it has but where it passes the event on
abbrev pub own_reply : GateDecision → Option FtpReply
own_reply (Answers reply) = Some reply
own_reply (Refuses reply) = Some reply
own_reply (LogsIn name) = Some logged_in
own_reply (PassesOn event) = None
