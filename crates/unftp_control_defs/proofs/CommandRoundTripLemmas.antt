-- An escaped text after a word is read back, by what the word's rule makes of a value.
use Rattle.std.proofs.Common.{◌≡◌, ◌≢◌, false, [], ◌∷◌, ◌++◌, length, ◌==◌, Some, Ok, refl, ap, ◌∙◌, ne_eqb}
use Rattle.std.specs.Str.{IsUtf8}
use Rattle.std.proofs.lemmas.List.{nil_from_length}
use Rattle.std.proofs.lemmas.Str.{utf8_lossy-IsUtf8}
use Rattle.unftp_control_defs.specs.Bytes.{Bytes, LF, crlf, Lacks}
use Rattle.unftp_control_defs.specs.Values.{escaped}
use Rattle.unftp_control_defs.specs.ComputedValue.{value_of}
use Rattle.unftp_control_defs.specs.FtpCommand.{FtpCommand, Outcome, Raw, Text, command_by, maybe_raw, maybe_text, unless_empty}
use Rattle.unftp_control_defs.specs.Rules.{optional_text, taken}
use Rattle.unftp_control_defs.specs.declared.verb.Kind.TheVariants as kinds
use Rattle.unftp_control_defs.specs.declared.verb.Verb.{Verb}
use Rattle.unftp_control_defs.specs.Outcome.{value_outcome}
use Rattle.unftp_control_defs.specs.Canonical.{IsNonEmptyText}
use Rattle.unftp_control_defs.proofs.EscapeLemmas.{value_of-escaped}

not_empty : (text : Bytes) → text ≢ [] → (length text == 0) ≡ false
not_empty text some = ne_eqb (length text) 0 (λ e. some (nil_from_length text e))

pub unless_empty-some : (text : Bytes) → text ≢ [] → unless_empty text ≡ Some text
unless_empty-some [] some = absurd (some refl)
unless_empty-some (b ∷ text) some = refl

optional_text-IsUtf8 : (text : Bytes) → IsUtf8 text
    → optional_text text ≡ maybe_text (unless_empty text)
optional_text-IsUtf8 [] utf8 = refl
optional_text-IsUtf8 (b ∷ text) utf8 = ap Text (utf8_lossy-IsUtf8 (b ∷ text) utf8)

-- by what takes a value
pub by_escaped : (answer : Bytes → Outcome) (text : Bytes) → Lacks LF text
    → value_outcome answer (value_of (escaped text ++ crlf)) ≡ answer text
by_escaped answer text h = ap (value_outcome answer) (value_of-escaped text h)

module _ (verb : Verb) (name text : Bytes) where
  pub text_back : {command : FtpCommand} → command_by verb name (Text text) ≡ Ok command
      → IsNonEmptyText text → IsUtf8 text
      → value_outcome (taken kinds.Text verb name) (value_of (escaped text ++ crlf)) ≡ Ok command
  text_back makes named utf8 = by_escaped (taken kinds.Text verb name) text named.1
      ∙ rw (not_empty text named.0, utf8_lossy-IsUtf8 text utf8) makes

  pub optional_text_back : {command : FtpCommand}
      → command_by verb name (maybe_text (unless_empty text)) ≡ Ok command
      → Lacks LF text → IsUtf8 text
      → value_outcome (taken kinds.OptionalText verb name) (value_of (escaped text ++ crlf))
      ≡ Ok command
  optional_text_back makes h utf8 = by_escaped (taken kinds.OptionalText verb name) text h
      ∙ ap (command_by verb name) (optional_text-IsUtf8 text utf8) ∙ makes

  pub some_text_back : {command : FtpCommand} → command_by verb name (Text text) ≡ Ok command
      → IsNonEmptyText text → IsUtf8 text
      → value_outcome (taken kinds.OptionalText verb name) (value_of (escaped text ++ crlf))
      ≡ Ok command
  some_text_back makes named utf8 = optional_text_back
      (ap (λ t. command_by verb name (maybe_text t)) (unless_empty-some text named.0) ∙ makes)
      named.1 utf8

  pub some_raw_back : {command : FtpCommand} → command_by verb name (Raw text) ≡ Ok command
      → IsNonEmptyText text
      → value_outcome (taken kinds.Raw verb name) (value_of (escaped text ++ crlf)) ≡ Ok command
  some_raw_back makes named = by_escaped (taken kinds.Raw verb name) text named.1
      ∙ ap (λ t. command_by verb name (maybe_raw t)) (unless_empty-some text named.0) ∙ makes
