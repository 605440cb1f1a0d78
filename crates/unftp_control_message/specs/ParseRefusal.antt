-- Which refusal of a line an error of the parser is.
use Rattle.std.specs.Prelude.{Option, Some, None}
use Rattle.unftp_control_defs.specs.FtpCommand.{Refusal, InvalidCommand, InvalidUtf8, InvalidEol}
use Rattle.unftp_control_message.specs.declared.reply.error.parse_error.ParseErrorKind.{ParseErrorKind}
use Rattle.unftp_control_message.specs.declared.reply.error.parse_error.ParseErrorKind.TheVariants as kind

-- the refusal that a kind is; running out of memory refuses no line
abbrev pub refusal_of : ParseErrorKind → Option Refusal
refusal_of kind.InvalidCommand = Some InvalidCommand
refusal_of kind.InvalidUtf8 = Some InvalidUtf8
refusal_of kind.InvalidEol = Some InvalidEol
refusal_of kind.OutOfMemory = None
