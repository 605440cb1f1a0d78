-- What a server receives of its input: for each line a command, or why it was refused.
use Rattle.std.specs.Prelude.{ℕ, Bool, true, false, nat_lt, if◌then◌else◌, List, map, length, Option, None, Some, Ok, Err}
use Rattle.unftp_control_defs.specs.Bytes.{Bytes}
use Rattle.unftp_control_defs.specs.Lines.{lines_of}
use Rattle.unftp_control_defs.specs.FtpCommand as line
use Rattle.unftp_control_defs.specs.FtpCommand.{FtpCommand, Refusal, Outcome}
use Rattle.unftp_control_defs.specs.Outcome.{outcome}

-- the kinds of the control channel's errors
pub data FaultKind : Type 0 where
  IoError : FaultKind
  ParseError : FaultKind
  InternalServerError : FaultKind
  AuthenticationError : FaultKind
  InternalMsgError : FaultKind
  Utf8Error : FaultKind
  UnknownCommand : Bytes → FaultKind
  InvalidCommand : FaultKind
  ControlChannelTimeout : FaultKind
  IllegalState : FaultKind
  OutOfMemory : FaultKind
  LineTooLong : FaultKind

-- what such an error comes from: nothing else; the reading of a line, which refused it, or which
-- had no memory; ill-formed UTF-8; the system
pub data FaultSource : Type 0 where
  NoSource : FaultSource
  Parse : Option Refusal → FaultSource
  Utf8 : FaultSource
  Io : FaultSource

pub record Fault : Type 0 where
  pub kind : FaultKind
  pub source : FaultSource

-- out of memory, outside the reading of a line
abbrev pub out_of_memory : Fault
out_of_memory = record { kind = OutOfMemory; source = NoSource }

-- the kind that a refused line is reported with
abbrev pub refusal_kind : Refusal → FaultKind
refusal_kind line.InvalidUtf8 = Utf8Error
refusal_kind line.InvalidCommand = InvalidCommand
refusal_kind line.InvalidEol = InvalidCommand

abbrev pub refusal_fault : Refusal → Fault
refusal_fault refusal = record { kind = refusal_kind refusal; source = Parse (Some refusal) }

pub data FtpEvent : Type 0 where
  Command : FtpCommand → FtpEvent
  Refused : Fault → FtpEvent

-- QUIT, with which a session ends (RFC 959, section 4.1.1)
abbrev pub is_quit : FtpEvent → Bool
is_quit (Command line.Quit) = true
is_quit _ = false

abbrev pub event_of : Outcome → FtpEvent
event_of (Ok command) = Command command
event_of (Err refusal) = Refused (refusal_fault refusal)

-- A limit on the length of a line, in bytes, its LF counted. RFC 959 names none: a server sets
-- it, to bound what it keeps of a line that doesn't end. n bytes are more than a line may have;
-- without a limit no n is.
abbrev pub exceeds : Option ℕ → ℕ → Bool
exceeds None n = false
exceeds (Some limit) n = nat_lt limit n

abbrev pub line_too_long : Fault
line_too_long = record { kind = LineTooLong; source = NoSource }

-- the event of a line: that of one that is too long is the same, whatever it holds
abbrev pub event_for : Option ℕ → Bytes → FtpEvent
event_for limit line =
    if exceeds limit (length line) then Refused line_too_long else event_of (outcome line)

-- one event for each line of the input, in order
abbrev pub events : Option ℕ → Bytes → List FtpEvent
events limit input = map (event_for limit) (lines_of input)
