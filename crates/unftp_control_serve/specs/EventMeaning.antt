-- What an event means.
use Rattle.std.specs.Prelude.{Bool, true, false, Option, None, Some}
use Rattle.unftp_control_defs.specs.Events.{FaultKind, FtpEvent, Command, LineTooLong, Refused}
use Rattle.unftp_control_message.specs.CommandMeaning.{command_of}
use Rattle.unftp_control_defs.specs.FtpReply.{FtpReply}
use Rattle.unftp_control_message.specs.ErrorMeaning.{fault_of}
use Rattle.unftp_control_message.specs.ReplyMeaning.{reply_of}
use Rattle.unftp_control_message.specs.declared.reply.Reply.{Reply}
use Rattle.unftp_control_serve.specs.declared.event.Event.{Event}
use Rattle.unftp_control_serve.specs.declared.event.Event.TheVariants as event

abbrev pub event_meant : Event → FtpEvent
event_meant (event.Command command) = Command (command_of command)
event_meant (event.Refused error) = Refused (fault_of error)

abbrev pub is_line_too_long : FaultKind → Bool
is_line_too_long LineTooLong = true
is_line_too_long _ = false

-- its line is longer than the limit
abbrev pub refuses_length : FtpEvent → Bool
refuses_length (Command command) = false
refuses_length (Refused fault) = is_line_too_long fault.kind

-- the next of the replies that follow, if there is one
abbrev pub further_of : Option Reply → Option FtpReply
further_of None = None
further_of (Some reply) = Some (reply_of reply)
