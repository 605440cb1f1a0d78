-- What contracts see of parts: what they say, and the command that they give.
use Rattle.std.specs.Prelude.{◌≡◌, ◌+◌, ◌<◌, ℕ, ⊤, length, Option, Some, None, Result, Ok, Err}
use Rattle.std.specs.Str.{IsUtf8}
use Rattle.std.specs.Str.Lossy.{utf8_lossy}
use Rattle.unftp_control_defs.specs.Bytes.{Bytes}
use Rattle.unftp_control_defs.specs.FtpCommand.{Outcome, FtpCommand, InvalidCommand, User, Pass, Acct, List, Nothing, Other, Site, Number, Raw, Text, Chosen, Value as SaidValue, Said, said}
use Rattle.unftp_control_defs.specs.Said.{outcome_of}
use Rattle.unftp_control_defs.specs.declared.verb.Kind.{Kind}
use Rattle.unftp_control_defs.specs.declared.verb.Kind.TheVariants as kinds
use Rattle.unftp_control_defs.specs.Verbs.{upper}
use Rattle.unftp_control_message.specs.CommandMeaning.{command_of}
use Rattle.unftp_control_message.specs.SentValues.{sent_value}
use Rattle.unftp_control_message.specs.declared.Command.{Command}
use Rattle.unftp_control_message.specs.declared.parts.Parts.{Parts}
use Rattle.unftp_control_message.specs.declared.parts.Value.{Value}
use Rattle.unftp_control_message.specs.declared.parts.Value.TheVariants as rust
use Rattle.unftp_control_message.specs.declared.sent.Sent.TheVariants as sent
use Rattle.unftp_control_message.specs.declared.reply.error.parse_error.ParseErrorKind.{ParseErrorKind}
use Rattle.unftp_control_message.specs.declared.reply.error.parse_error.ParseErrorKind.TheVariants as kind

abbrev pub said_value : Value → SaidValue
said_value rust.None = Nothing
said_value (rust.Raw value) = Raw (sent_value value)
said_value (rust.Text text) = Text text.now
said_value (rust.Lossy value) = Text (utf8_lossy (sent_value value))
said_value (rust.Chosen choice) = Chosen choice
said_value (rust.Number number) = Number number

-- what parts say, their name as it is spelled
abbrev pub spelled : Parts → Said
spelled parts = record { verb = parts.verb; name = parts.name.now; value = said_value parts.value }

-- what parts say, whatever the case of their name
abbrev pub said_of : Parts → Said
said_of parts = record (spelled parts) { name = upper parts.name.now }

-- the value is where it was read, as it is
abbrev pub IsInPlace : Value → Type 0
IsInPlace (rust.Raw (sent.Escaped bytes)) = ⊥
IsInPlace (rust.Lossy value) = ⊥
IsInPlace _ = ⊤

-- Its parts say all of the command: there are no options of LIST, and no name that may be spelled
-- in another case.
abbrev pub IsItsParts : FtpCommand → Type 0
IsItsParts (List options path) = ⊥
IsItsParts (Site name arguments) = ⊥
IsItsParts (Other name arguments) = ⊥
IsItsParts command = ⊤

-- A text that could be borrowed is: one that is not in place is ill-formed, or sent with NULs.
abbrev pub IsBorrowed : Value → Type 0
IsBorrowed (rust.Lossy (sent.Plain bytes)) = ¬ IsUtf8 bytes.now
IsBorrowed _ = ⊤

-- how many bytes it holds
abbrev pub value_len : SaidValue → ℕ
value_len (Raw bytes) = length bytes
value_len (Text text) = length text
value_len _ = 0

abbrev pub said_len : Said → ℕ
said_len parts = length parts.name + value_len parts.value

abbrev pub maybe_len : Option Bytes → ℕ
maybe_len None = 0
maybe_len (Some text) = length text

-- How many bytes a command holds in its texts and byte strings. A password counts for one more: a
-- failure does not show whether it is empty.
abbrev pub held_len : FtpCommand → ℕ
held_len (User name) = length name
held_len (Pass password) = 1 + length password
held_len (Acct account) = length account
held_len (List options path) = maybe_len options + maybe_len path
held_len (Site name arguments) = length name + length arguments
held_len (Other name arguments) = length name + length arguments
held_len command = said_len (said command)

-- The outcome is a refusal; or memory ran out for so many bytes.
abbrev pub Fails : Outcome → ℕ → ParseErrorKind → Type 0
Fails answer len kind.InvalidCommand = answer ≡ Err InvalidCommand
Fails answer len kind.OutOfMemory = 0 < len
Fails answer len _ = ⊥

-- A command of these parts fails so.
abbrev pub FailsAs : Parts → ParseErrorKind → Type 0
FailsAs parts error = Fails (outcome_of (said_of parts)) (said_len (said_of parts)) error

-- a verb of this kind takes a text, or none
abbrev pub TakesOptionalText : Kind → Type 0
TakesOptionalText kinds.OptionalText = ⊤
TakesOptionalText kinds.Listing = ⊤
TakesOptionalText kinds.Subcommand = ⊤
TakesOptionalText _ = ⊥

-- The outcome is this command; or it fails so.
abbrev pub MakesCommand : Outcome → ℕ → Result Command ParseErrorKind → Type 0
MakesCommand answer len (Ok command) = answer ≡ Ok (command_of command)
MakesCommand answer len (Err error) = Fails answer len error
