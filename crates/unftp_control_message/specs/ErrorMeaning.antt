-- What an error means.
use Rattle.std.specs.Prelude.{string_bytes}
use Rattle.unftp_control_defs.specs.Events.{Fault, FaultKind, FaultSource, NoSource, Parse, Utf8, Io}
use Rattle.unftp_control_defs.specs.Events as fault
use Rattle.unftp_control_message.specs.declared.reply.error.parse_error.ParseErrorKind.{ParseErrorKind}
use Rattle.unftp_control_message.specs.declared.reply.error.parse_error.ParseErrorKind.TheVariants as parse
use Rattle.unftp_control_message.specs.ParseRefusal.{refusal_of}
use Rattle.unftp_control_message.specs.declared.reply.error.ControlChanErrorKind.{ControlChanErrorKind}
use Rattle.unftp_control_message.specs.declared.reply.error.ControlChanErrorKind.TheVariants as kind
use Rattle.unftp_control_message.specs.declared.reply.error.Source.{Source}
use Rattle.unftp_control_message.specs.declared.reply.error.Source.TheVariants as source
use Rattle.unftp_control_message.specs.ErrorParts.{KindAndSource}

abbrev pub kind_meant : ControlChanErrorKind → FaultKind
kind_meant kind.IoError = fault.IoError
kind_meant kind.ParseError = fault.ParseError
kind_meant kind.InternalServerError = fault.InternalServerError
kind_meant kind.AuthenticationError = fault.AuthenticationError
kind_meant kind.InternalMsgError = fault.InternalMsgError
kind_meant kind.Utf8Error = fault.Utf8Error
kind_meant (kind.UnknownCommand command) = fault.UnknownCommand (string_bytes command)
kind_meant kind.InvalidCommand = fault.InvalidCommand
kind_meant kind.ControlChannelTimeout = fault.ControlChannelTimeout
kind_meant kind.IllegalState = fault.IllegalState
kind_meant kind.OutOfMemory = fault.OutOfMemory
kind_meant kind.LineTooLong = fault.LineTooLong

abbrev pub source_meant : Source → FaultSource
source_meant source.None = NoSource
source_meant (source.Parse error) = Parse (refusal_of error)
source_meant (source.Utf8 error) = Utf8
source_meant (source.Io error) = Io

abbrev pub fault_of : KindAndSource → Fault
fault_of parts = record { kind = kind_meant parts.kind; source = source_meant parts.source }

-- the kind that an error of the parser becomes
abbrev pub converted : ParseErrorKind → ControlChanErrorKind
converted parse.InvalidUtf8 = kind.Utf8Error
converted parse.InvalidCommand = kind.InvalidCommand
converted parse.InvalidEol = kind.InvalidCommand
converted parse.OutOfMemory = kind.OutOfMemory
