-- The numbers that a caller in C gets; include/unftp_control.h has them by name.
use Rattle.std.specs.Prelude.{ℕ, Some, None}
use Rattle.unftp_control_defs.specs.FtpCommand.{Refusal}
use Rattle.unftp_control_defs.specs.FtpCommand as refusal
use Rattle.unftp_control_defs.specs.Events.{Fault, FaultKind, FaultSource}
use Rattle.unftp_control_defs.specs.Events as fault
use Rattle.unftp_control_message.specs.declared.reply.error.parse_error.ParseErrorKind.{ParseErrorKind}
use Rattle.unftp_control_message.specs.declared.reply.error.parse_error.ParseErrorKind.TheVariants as kind
use Rattle.unftp_control_write.specs.declared.WriteCommandError.{WriteCommandError}
use Rattle.unftp_control_write.specs.declared.WriteCommandError.TheVariants as error
use Rattle.unftp_control_c.specs.declared.status.Status.{Status}
use Rattle.unftp_control_c.specs.declared.status.Status.TheVariants.{Done, More, InvalidCommand, InvalidUtf8, InvalidEol, LineTooLong, OutOfMemory, NoRoom, NoLine, Malformed, UnknownCode, InvalidArgument, NoAddress, UnknownProtocol, ReplyTooLong}

-- what a call reports where it gives no command
abbrev pub status_number : Status → ℕ
status_number Done = 0
status_number More = 101
status_number InvalidCommand = 102
status_number InvalidUtf8 = 103
status_number InvalidEol = 104
status_number LineTooLong = 105
status_number OutOfMemory = 106
status_number NoRoom = 107
status_number NoLine = 108
status_number Malformed = 109
status_number UnknownCode = 110
status_number InvalidArgument = 111
status_number NoAddress = 112
status_number UnknownProtocol = 113
status_number ReplyTooLong = 114

abbrev pub refusal_status : Refusal → Status
refusal_status refusal.InvalidCommand = InvalidCommand
refusal_status refusal.InvalidUtf8 = InvalidUtf8
refusal_status refusal.InvalidEol = InvalidEol

-- what the parser's kind is, and what an error is that the codec returns
abbrev pub kind_status : ParseErrorKind → Status
kind_status kind.InvalidCommand = InvalidCommand
kind_status kind.InvalidUtf8 = InvalidUtf8
kind_status kind.InvalidEol = InvalidEol
kind_status kind.OutOfMemory = OutOfMemory

abbrev pub source_status : FaultSource → Status
source_status (fault.Parse (Some refusal)) = refusal_status refusal
source_status (fault.Parse None) = OutOfMemory
source_status _ = InvalidCommand

abbrev pub status_of_kind : FaultKind → Status → Status
status_of_kind fault.OutOfMemory status = OutOfMemory
status_of_kind fault.LineTooLong status = LineTooLong
status_of_kind _ status = status

abbrev pub fault_status : Fault → Status
fault_status fault = status_of_kind fault.kind (source_status fault.source)

-- why a command has no line
abbrev pub line_status : WriteCommandError → Status
line_status error.NoLine = NoLine
line_status error.OutOfMemory = OutOfMemory
