-- Which call a note is of.
use Rattle.unftp_control_defs.specs.FtpReply.{CodeAndMsg}
use Rattle.unftp_control_message.specs.ReplyMeaning.{number_of}
use Rattle.unftp_control_serve.specs.EventMeaning.{event_meant}
use Rattle.unftp_control_login.specs.HandlerCalls.{Asks, AsksFurther, HandlerCall, Makes, Passes}
use Rattle.unftp_control_login.specs.declared.calls.Note.{Note}
use Rattle.unftp_control_login.specs.declared.calls.Note.TheVariants as note

abbrev pub call_of : Note → HandlerCall
call_of (note.Asks name password) = Asks name.now password.now
call_of (note.Passes event) = Passes (event_meant event.now)
call_of note.AsksFurther = AsksFurther
call_of (note.Makes code text) = Makes (CodeAndMsg (number_of code) text.now)
