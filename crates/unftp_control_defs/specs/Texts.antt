-- The texts of errors.
use Rattle.std.specs.Prelude.{◌++◌, Option, Some, None, codes}
use Rattle.unftp_control_defs.specs.Bytes.{Bytes}
use Rattle.unftp_control_defs.specs.FtpCommand as line
use Rattle.unftp_control_defs.specs.FtpCommand.{Refusal}
use Rattle.unftp_control_defs.specs.Events.{FaultKind, IoError, ParseError, InternalServerError, AuthenticationError, InternalMsgError, Utf8Error, UnknownCommand, InvalidCommand, ControlChannelTimeout, IllegalState, OutOfMemory, LineTooLong}

-- why a line was not read: it was refused, or there was no memory
abbrev pub reading_text : Option Refusal → Bytes
reading_text (Some line.InvalidCommand) = codes "Invalid command"
reading_text (Some line.InvalidUtf8) = codes "Non-UTF8 character while parsing"
reading_text (Some line.InvalidEol) = codes "Invalid end-of-line"
reading_text None = codes "Out of memory"

abbrev pub kind_text : FaultKind → Bytes
kind_text IoError = codes "Failed to perform IO"
kind_text ParseError = codes "Failed to parse command"
kind_text InternalServerError = codes "Internal Server Error"
kind_text AuthenticationError = codes "Something went wrong when trying to authenticate"
kind_text InternalMsgError = codes "Failed to map event from data channel"
kind_text Utf8Error = codes "Non-UTF8 character in command"
kind_text (UnknownCommand command) = codes "Unknown command: " ++ command
kind_text InvalidCommand = codes "Invalid command (invalid parameter)"
kind_text ControlChannelTimeout = codes "Encountered read timeout on the control channel"
kind_text IllegalState = codes "Control channel in illegal state"
kind_text OutOfMemory = codes "Out of memory"
kind_text LineTooLong = codes "Line too long"

-- without the command that it may hold
abbrev pub kind_reason : FaultKind → Bytes
kind_reason (UnknownCommand command) = codes "Unknown command"
kind_reason kind = kind_text kind

-- the whole texts of the two errors
abbrev pub parse_error_text : Option Refusal → Bytes
parse_error_text why = codes "parse error: " ++ reading_text why

abbrev pub error_text : FaultKind → Bytes
error_text kind = codes "control channel error: " ++ kind_text kind
