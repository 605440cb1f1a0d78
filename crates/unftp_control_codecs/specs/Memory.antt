-- Which lines memory may be taken for.
use Rattle.std.specs.Prelude.{◌≡◌, ⊤, ◌<◌, Result, Ok, Err}
use Rattle.unftp_control_defs.specs.Bytes.{Bytes}
use Rattle.unftp_control_defs.specs.FtpCommand.{Outcome}
use Rattle.unftp_control_defs.specs.Said.{IsSaid}
use Rattle.unftp_control_defs.specs.declared.verb.Verb.{Verb}
use Rattle.unftp_control_defs.specs.Outcome.{outcome}
use Rattle.unftp_control_codecs.specs.ParseAnswer.{Refuses}
use Rattle.unftp_control_message.specs.CommandMeaning.{command_of}
use Rattle.unftp_control_message.specs.PartsMeaning.{IsBorrowed, said_value, held_len, said_of}
use Rattle.unftp_control_message.specs.declared.Command.{Command}
use Rattle.unftp_control_message.specs.declared.parts.Parts.{Parts}
use Rattle.unftp_control_message.specs.declared.parts.Value.{Value}
use Rattle.unftp_control_message.specs.declared.reply.error.parse_error.ParseErrorKind.{ParseErrorKind}
use Rattle.unftp_control_message.specs.declared.reply.error.parse_error.ParseErrorKind.TheVariants as kind

-- The outcome is a command that holds bytes. No refusal takes memory.
abbrev pub OutcomeMayTakeMemory : Outcome → Type 0
OutcomeMayTakeMemory (Ok command) = 0 < held_len command
OutcomeMayTakeMemory (Err refusal) = ⊥

-- so is the command of the line
abbrev pub MayTakeMemory : Bytes → Type 0
MayTakeMemory line = OutcomeMayTakeMemory (outcome line)

-- where memory ran out, P
abbrev pub IfOutOfMemory : ParseErrorKind → Type 0 → Type 0
IfOutOfMemory kind.InvalidCommand P = ⊤
IfOutOfMemory kind.InvalidUtf8 P = ⊤
IfOutOfMemory kind.InvalidEol P = ⊤
IfOutOfMemory kind.OutOfMemory P = P

abbrev pub OnOutOfMemory : {T : Type 0} → Result T ParseErrorKind → Type 0 → Type 0
OnOutOfMemory (Ok x) P = ⊤
OnOutOfMemory (Err error) P = IfOutOfMemory error P

-- A part of the parser returns this outcome, and runs out of memory only where it may take some.
abbrev pub FailsWith : Outcome → ParseErrorKind → Type 0
FailsWith answer kind.OutOfMemory = OutcomeMayTakeMemory answer
FailsWith answer error = Refuses answer error

abbrev pub ParsesTo : Outcome → Result Command ParseErrorKind → Type 0
ParsesTo answer (Ok command) = answer ≡ Ok (command_of command)
ParsesTo answer (Err error) = FailsWith answer error

-- A part of the parser refuses where this outcome is that refusal, and takes no memory.
abbrev pub IsRefusal : Outcome → ParseErrorKind → Type 0
IsRefusal answer kind.OutOfMemory = ⊥
IsRefusal answer error = Refuses answer error

-- It reads a value for this verb and name, or parts, which it borrows where it can.
abbrev pub ReadsTo : Outcome → Verb → Bytes → Result Value ParseErrorKind → Type 0
ReadsTo answer verb name (Ok value) =
    IsSaid answer (record { verb = verb; name = name; value = said_value value }) × IsBorrowed value
ReadsTo answer verb name (Err error) = IsRefusal answer error

abbrev pub PartsTo : Outcome → Result Parts ParseErrorKind → Type 0
PartsTo answer (Ok parts) = IsSaid answer (said_of parts) × IsBorrowed parts.value
PartsTo answer (Err error) = IsRefusal answer error
