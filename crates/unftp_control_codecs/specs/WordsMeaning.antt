-- What the words that a line begins with leave to be read.
use Rattle.std.specs.Prelude.{◌≡◌, ◌≢◌, ◌<◌, ◌==◌, ◌⊎◌, ◌++◌, ⊤, Bool, false, not, [], ◌∷◌, codes, if◌then◌else◌, length, None, Option, Some, option_map, Result, Ok, Err}
use Rattle.std.specs.Str.{is_utf8}
use Rattle.unftp_control_defs.specs.Bytes.{Bytes, LF, crlf}
use Rattle.unftp_control_defs.specs.ComputedValue.{value_of}
use Rattle.unftp_control_defs.specs.Forwarded.{kind_keeps}
use Rattle.unftp_control_defs.specs.FtpCommand.{Chosen, InvalidUtf8, Number, Outcome, Value, kind, verbs}
use Rattle.unftp_control_defs.specs.Outcome.{parameter_outcome}
use Rattle.unftp_control_defs.specs.Rules.{row_of}
use Rattle.unftp_control_defs.specs.Said.{IsSaid, KindSaysBack, value_bytes}
use Rattle.unftp_control_defs.specs.Verbs.{parameter_of, upper, verb_of}
use Rattle.unftp_control_defs.specs.declared.verb.Kind.{Kind}
use Rattle.unftp_control_defs.specs.declared.verb.Kind.TheVariants as kinds
use Rattle.unftp_control_defs.specs.declared.verb.Verb.{Verb}
use Rattle.unftp_control_defs.specs.declared.verb.Verb.TheVariants as verb
use Rattle.unftp_control_codecs.specs.Memory.{IsRefusal}
use Rattle.unftp_control_codecs.specs.declared.line_parser.parser.Words.{Words}
use Rattle.unftp_control_message.specs.SentValues.{sent_value}
use Rattle.unftp_control_message.specs.declared.reply.error.parse_error.ParseErrorKind.{ParseErrorKind}
use Rattle.unftp_control_message.specs.declared.sent.Sent.{Sent}

-- a verb of this kind has no name
abbrev pub HasNoName : Kind → Type 0
HasNoName kinds.Alone = ⊤
HasNoName kinds.Ignored = ⊤
HasNoName kinds.Raw = ⊤
HasNoName kinds.Text = ⊤
HasNoName _ = ⊥

-- The name has to be UTF-8; then it is what the verb makes of the parameter.
abbrev pub words_outcome : Words → Outcome
words_outcome words = if is_utf8 words.name.now
    then parameter_outcome words.kind words.verb (upper words.name.now) words.parameter.now
    else Err InvalidUtf8

-- The outcome is that of the words.
pub record AreWords (answer : Outcome) (words : Words) : Type 0 where
  pub read : answer ≡ words_outcome words
  pub fits : KindSaysBack words.kind words.verb (upper words.name.now)
  pub split : words.kind ≢ kinds.Subcommand
  pub keeps : kind_keeps words.kind ≡ kind_keeps (kind words.verb)
  pub nameless : HasNoName words.kind → words.name.now ≡ []

-- ---- where they are in the line

-- The word before the parameter is this verb's.
abbrev pub IsRuled : Verb → Bytes → Words → Type 0
IsRuled ruled line words = (words.verb ≡ ruled) × (words.parameter.now ≡ parameter_of line)

-- It is no verb's.
abbrev pub IsUnruled : Bytes → Words → Type 0
IsUnruled line words = (words.verb ≡ verb.Other) × (words.name.now ≡ verb_of line)
    × (words.parameter.now ≡ parameter_of line)

-- They are those of a subcommand of SITE (RFC 959, section 4.1.3).
abbrev pub IsSubcommand : Bytes → Words → Type 0
IsSubcommand line words = (words.parameter.now ≡ parameter_of line)
    × (((words.verb ≡ verb.Md5) × (upper (verb_of line) ≡ codes "MD5"))
    ⊎ ((words.verb ≡ verb.Site) × (words.name.now ≡ verb_of line)))

abbrev pub IsOfKind : Kind → Verb → Bytes → Words → Type 0
IsOfKind kinds.Subcommand ruled line words = IsSubcommand (parameter_of line) words
IsOfKind _ ruled line words = IsRuled ruled line words

abbrev pub IsOfRow : Option Verb → Bytes → Words → Type 0
IsOfRow None line words = IsUnruled line words
IsOfRow (Some ruled) line words = IsOfKind (kind ruled) ruled line words

-- the line begins with these words
abbrev pub BeginsWithWords : Bytes → Words → Type 0
BeginsWithWords line words = IsOfRow (row_of (upper (verb_of line)) verbs) line words

-- the bytes end with these, where they are any after another byte
abbrev pub EndsAfterByte : Bytes → Bytes → Type 0
EndsAfterByte bytes end = (front : Bytes) × (bytes ≡ front ++ end)
    × (0 < length end → 0 < length front)

-- ---- what they say

-- A verb without a parameter takes only an empty value, and a text is not empty.
abbrev pub refuses : Kind → Bytes → Bool
refuses kinds.Alone v = not (length v == 0)
refuses kinds.Text v = length v == 0
refuses _ v = false

-- They say all that the line says: the parameter is ignored, or is what a CR LF leaves, of which
-- the CR ends the verb.
abbrev pub IsLone : Words → Type 0
IsLone words = (words.kind ≡ kinds.Ignored)
    ⊎ ((words.kind ≡ kinds.Alone) × (words.parameter.now ≡ LF ∷ []))

-- The value is what the parameter has before a CR LF, and the line says it.
pub record IsUsual (words : Words) (v : Bytes) : Type 0 where
  pub some : 0 < length v
  pub before_end : words.parameter.now ≡ v ++ crlf
  pub says : (answer : Outcome) → AreWords answer words → (value : Value)
      × (value_bytes value ≡ Some v)
      × IsSaid answer (record { verb = words.verb; name = []; value = value })

-- the value has no type of its own
abbrev pub IsUntyped : Value → Type 0
IsUntyped (Chosen choice) = ⊥
IsUntyped (Number number) = ⊥
IsUntyped _ = ⊤

-- The verb takes what is sent; or the outcome is this refusal.
abbrev pub Sends : Outcome → Words → Result (Option Sent) ParseErrorKind → Type 0
Sends answer words (Ok sent) = (option_map sent_value sent ≡ value_of words.parameter.now)
    × ((value : Value) × IsUntyped value
    × IsSaid answer (record { verb = words.verb; name = upper words.name.now; value = value }))
Sends answer words (Err error) = IsRefusal answer error
