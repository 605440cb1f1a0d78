-- What is said of a command as its canonical line has it (RFC 959, section 5.3): a word, and the
-- bytes of a value.
use Rattle.std.specs.Prelude.{◌≡◌, Ok, Err, ℕ, ◌<◌, ◌^◌, ⊤, true, false, [], ◌∷◌, Option, Some, None, codes, decimal}
use Rattle.std.specs.Str.{IsUtf8}
use Rattle.unftp_control_defs.specs.Bytes.{Bytes}
use Rattle.unftp_control_defs.specs.declared.verb.Kind.{Kind}
use Rattle.unftp_control_defs.specs.declared.verb.Kind.TheVariants as kinds
use Rattle.unftp_control_defs.specs.declared.verb.Verb.{Verb}
use Rattle.unftp_control_defs.specs.FtpCommand.{Outcome, FtpCommand, List as Listing, Site, Other, Said, Value, Nothing, Raw, Text, Chosen, Number, command_by, maybe_raw, maybe_text, number, said, unless_empty, word}
use Rattle.unftp_control_defs.specs.declared.parameters.AuthParam.{AuthParam}
use Rattle.unftp_control_defs.specs.declared.parameters.Choice.{Choice}
use Rattle.unftp_control_defs.specs.declared.parameters.Choice.TheVariants as choices
use Rattle.unftp_control_defs.specs.declared.parameters.ModeParam.{ModeParam}
use Rattle.unftp_control_defs.specs.declared.parameters.Opt.{Opt}
use Rattle.unftp_control_defs.specs.declared.parameters.ProtParam.{ProtParam}
use Rattle.unftp_control_defs.specs.declared.parameters.StruParam.{StruParam}
use Rattle.unftp_control_defs.specs.declared.parameters.AuthParam.TheVariants.{Ssl, Tls}
use Rattle.unftp_control_defs.specs.declared.parameters.ModeParam.TheVariants.{Stream, Block, Compressed}
use Rattle.unftp_control_defs.specs.declared.parameters.Opt.TheVariants.{Utf8}
use Rattle.unftp_control_defs.specs.declared.parameters.ProtParam.TheVariants.{Clear, Safe, Confidential, Private}
use Rattle.unftp_control_defs.specs.declared.parameters.StruParam.TheVariants.{File, Record, Page}

abbrev pub structure_letter : StruParam → Bytes
structure_letter File = codes "F"
structure_letter Record = codes "R"
structure_letter Page = codes "P"

abbrev pub mode_letter : ModeParam → Bytes
mode_letter Stream = codes "S"
mode_letter Block = codes "B"
mode_letter Compressed = codes "C"

abbrev pub protection_letter : ProtParam → Bytes
protection_letter Clear = codes "C"
protection_letter Safe = codes "S"
protection_letter Confidential = codes "E"
protection_letter Private = codes "P"

abbrev pub mechanism : AuthParam → Bytes
mechanism Ssl = codes "SSL"
mechanism Tls = codes "TLS"

abbrev pub setting : Opt → Bytes
setting (Utf8 true) = codes "UTF8 ON"
setting (Utf8 false) = codes "UTF8 OFF"

abbrev pub choice_word : Choice → Bytes
choice_word (choices.Structure structure) = structure_letter structure
choice_word (choices.Mode mode) = mode_letter mode
choice_word (choices.Protection param) = protection_letter param
choice_word (choices.Mechanism protocol) = mechanism protocol
choice_word (choices.Setting option) = setting option
choice_word choices.NoBuffer = codes "0"

-- the bytes of a value, a number in decimal
abbrev pub value_bytes : Value → Option Bytes
value_bytes Nothing = None
value_bytes (Raw bytes) = Some bytes
value_bytes (Text text) = Some text
value_bytes (Chosen choice) = Some (choice_word choice)
value_bytes (Number number) = Some (decimal number)

abbrev pub name_on_line : Bytes → Bytes → Bytes
name_on_line [] name = name
name_on_line (b ∷ word) name = b ∷ word

-- the word that it has on a line, after SITE where it is a subcommand of it; and its value
abbrev pub word_and_value : Said → Bytes × Option Bytes
word_and_value parts =
    (name_on_line (word parts.verb) parts.name, value_bytes parts.value)

abbrev pub name_and_value : FtpCommand → Bytes × Option Bytes
name_and_value command = word_and_value (said command)

abbrev pub command_number : FtpCommand → ℕ
command_number command = number (said command).verb

-- its text is UTF-8, and its number has 64 bits
abbrev pub IsTyped : Value → Type 0
IsTyped (Text text) = IsUtf8 text
IsTyped (Number number) = number < 2 ^ 64
IsTyped _ = ⊤

abbrev pub IsMaybeUtf8 : Option Bytes → Type 0
IsMaybeUtf8 text = IsTyped (maybe_text text)

-- What the types of a command's fields ensure.
abbrev pub HasTypedFields : FtpCommand → Type 0
HasTypedFields (Listing options path) = IsMaybeUtf8 options × IsMaybeUtf8 path
HasTypedFields (Site name arguments) = IsUtf8 name × IsUtf8 arguments
HasTypedFields (Other name arguments) = IsUtf8 name × IsUtf8 arguments
HasTypedFields command = IsTyped (said command).value

-- the command of what is said; none where the verb takes no such value
abbrev pub outcome_of : Said → Outcome
outcome_of parts = command_by parts.verb parts.name parts.value

-- The outcome is a command of which this is said.
abbrev pub MeansCommand : Outcome → Said → Type 0
MeansCommand (Ok command) parts = said command ≡ parts
MeansCommand (Err refusal) parts = ⊥

abbrev pub IsSaid : Outcome → Said → Type 0
IsSaid answer parts = (answer ≡ outcome_of parts) × MeansCommand answer parts

abbrev parts : Verb → Bytes → Value → Said
parts verb name value = record { verb = verb; name = name; value = value }

abbrev pub SaysBack : Verb → Bytes → Value → Type 0
SaysBack verb name value = IsSaid (command_by verb name value) (parts verb name value)

-- what a verb of this kind makes of what it reads says it back
abbrev pub KindSaysBack : Kind → Verb → Bytes → Type 0
KindSaysBack kinds.Ignored verb name = SaysBack verb name Nothing
KindSaysBack kinds.Alone verb name = SaysBack verb name Nothing
KindSaysBack kinds.Raw verb name = (v : Bytes) → SaysBack verb name (maybe_raw (unless_empty v))
KindSaysBack kinds.Text verb name = (text : Bytes) → SaysBack verb name (Text text)
KindSaysBack kinds.OptionalText verb name =
    (text : Bytes) → SaysBack verb name (maybe_text (unless_empty text))
KindSaysBack kinds.Listing verb name =
    (text : Bytes) → SaysBack verb name (maybe_text (unless_empty text))
KindSaysBack kinds.Typed verb name = name ≡ []
KindSaysBack kinds.Subcommand verb name = ⊤
