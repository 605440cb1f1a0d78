-- What the parser returns for the outcome of a line.
use Rattle.std.specs.Prelude.{◌≡◌, ⊤, Result, Ok, Err}
use Rattle.unftp_control_defs.specs.FtpCommand.{InvalidCommand, InvalidUtf8, InvalidEol, Outcome}
use Rattle.unftp_control_message.specs.declared.Command.{Command}
use Rattle.unftp_control_message.specs.CommandMeaning.{command_of}
use Rattle.unftp_control_message.specs.declared.reply.error.parse_error.ParseErrorKind.{ParseErrorKind}
use Rattle.unftp_control_message.specs.declared.reply.error.parse_error.ParseErrorKind.TheVariants as kind

-- the outcome is that refusal; running out of memory refuses no line
abbrev pub Refuses : Outcome → ParseErrorKind → Type 0
Refuses answer kind.InvalidCommand = answer ≡ Err InvalidCommand
Refuses answer kind.InvalidUtf8 = answer ≡ Err InvalidUtf8
Refuses answer kind.InvalidEol = answer ≡ Err InvalidEol
Refuses answer kind.OutOfMemory = ⊤

-- A call returns what a line means, unless it runs out of memory.
abbrev pub Returns : Outcome → Result Command ParseErrorKind → Type 0
Returns answer (Ok command) = answer ≡ Ok (command_of command)
Returns answer (Err kind) = Refuses answer kind
