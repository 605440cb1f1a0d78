-- A command of SITE, and one whose verb has no rule, are read back.
use Rattle.std.proofs.Common.{◌≡◌, ◌≢◌, ℕ, true, false, [], ◌∷◌, ◌++◌, None, Ok, bytes_eq, refl, ap, ◌∙◌, codes, append_assoc}
use Rattle.std.specs.Str.{IsUtf8, is_utf8, chars}
use Rattle.std.proofs.lemmas.Bool.{false_from_ne_true}
use Rattle.std.proofs.lemmas.Str.{is_utf8-from_IsUtf8}
use lib.Pointwise.{bytes_decides}
use Rattle.unftp_control_defs.specs.Bytes.{Bytes, LF, CR, SP, crlf, Lacks}
use Rattle.unftp_control_defs.specs.Verbs.{is_separator}
use Rattle.unftp_control_defs.specs.Values.{escaped}
use Rattle.unftp_control_defs.specs.ComputedValue.{value_of}
use Rattle.unftp_control_defs.specs.FtpCommand.{FtpCommand, Site, Other, Outcome, command_by, maybe_text, unless_empty, verbs}
use Rattle.unftp_control_defs.specs.Rules.{row_of, taken}
use Rattle.unftp_control_defs.specs.declared.verb.Kind.TheVariants as kinds
use Rattle.unftp_control_defs.specs.declared.verb.Verb.{Verb}
use Rattle.unftp_control_defs.specs.declared.verb.Verb.TheVariants as verb
use Rattle.unftp_control_defs.specs.Outcome.{outcome, value_outcome, site_outcome}
use Rattle.unftp_control_defs.specs.Canonical.{spaced_unless_empty, canonical_line, IsUpperCaseName}
use Rattle.unftp_control_defs.proofs.VerbLemmas.{parted_cut}
use Rattle.unftp_control_defs.proofs.UpperLemmas.{upper-IsUpperCaseName, bare_name}
use Rattle.unftp_control_defs.proofs.CommandRoundTripLemmas.{optional_text_back}

-- a name that takes any text after a separator
name_back : (read : Bytes → Outcome) (verb : Verb) (name : Bytes) (command : Bytes → FtpCommand)
    → ((text : Bytes) → command_by verb name (maybe_text (unless_empty text)) ≡ Ok (command text))
    → ((b : ℕ) (parameter : Bytes) → is_separator b ≡ true → read (name ++ b ∷ parameter)
    ≡ value_outcome (taken kinds.OptionalText verb name) (value_of parameter))
    → (arguments : Bytes) → Lacks LF arguments → IsUtf8 arguments
    → read (spaced_unless_empty name arguments ++ crlf) ≡ Ok (command arguments)
name_back read verb name command makes takes [] h utf8 = takes CR (LF ∷ []) refl ∙ makes []
name_back read verb name command makes takes (b ∷ arguments) h utf8 =
    ap read (append_assoc name (SP ∷ escaped (b ∷ arguments)) crlf)
    ∙ takes SP (escaped (b ∷ arguments) ++ crlf) refl
    ∙ optional_text_back verb name (b ∷ arguments) (makes (b ∷ arguments)) h utf8

-- a verb without a rule, and a name of SITE
module _ (name : Bytes) (is_name : IsUpperCaseName name) (is_text : IsUtf8 name) where
  other_line : row_of name verbs ≡ None → (b : ℕ) (parameter : Bytes) → is_separator b ≡ true
      → outcome (name ++ b ∷ parameter)
      ≡ value_outcome (taken kinds.OptionalText verb.Other name) (value_of parameter)
  other_line none b parameter s =
      let cut = parted_cut name b parameter (bare_name name is_name) s in
      rw (cut.0, cut.1, is_utf8-from_IsUtf8 name is_text, upper-IsUpperCaseName name is_name, none)

  site_parameter : name ≢ codes "MD5" → (b : ℕ) (parameter : Bytes) → is_separator b ≡ true
      → site_outcome (name ++ b ∷ parameter)
      ≡ value_outcome (taken kinds.OptionalText verb.Site name) (value_of parameter)
  site_parameter ne b parameter s =
      let cut = parted_cut name b parameter (bare_name name is_name) s in
      let apart : bytes_eq name (codes "MD5") ≡ false =
      false_from_ne_true (bytes_eq name (codes "MD5"))
      (λ t. ne ((bytes_decides name (codes "MD5")).0 t)) in
      rw (cut.0, cut.1, is_utf8-from_IsUtf8 name is_text, upper-IsUpperCaseName name is_name, apart)

  other_makes : (text : Bytes)
      → command_by verb.Other name (maybe_text (unless_empty text)) ≡ Ok (Other name text)
  other_makes [] = refl
  other_makes (b ∷ text) = refl

  site_makes : (text : Bytes)
      → command_by verb.Site name (maybe_text (unless_empty text)) ≡ Ok (Site name text)
  site_makes [] = refl
  site_makes (b ∷ text) = refl

  other_body : (arguments : Bytes)
      → canonical_line (Other name arguments) ≡ spaced_unless_empty name arguments ++ crlf
  other_body [] = refl
  other_body (b ∷ arguments) = refl

  pub other_back : row_of name verbs ≡ None → (arguments : Bytes) → Lacks LF arguments
      → IsUtf8 arguments → outcome (canonical_line (Other name arguments))
      ≡ Ok (Other name arguments)
  other_back none arguments h utf8 = ap outcome (other_body arguments)
      ∙ name_back outcome verb.Other name (Other name) other_makes (other_line none) arguments h utf8

  site_parameter_back : name ≢ codes "MD5" → (arguments : Bytes) → Lacks LF arguments
      → IsUtf8 arguments → site_outcome (spaced_unless_empty name arguments ++ crlf)
      ≡ Ok (Site name arguments)
  site_parameter_back ne arguments h utf8 =
      name_back site_outcome verb.Site name (Site name) site_makes (site_parameter ne) arguments h
      utf8

pub site_back : (name arguments : Bytes) → IsUpperCaseName name → name ≢ codes "MD5" → IsUtf8 name
    → Lacks LF arguments → IsUtf8 arguments → outcome (canonical_line (Site name arguments))
    ≡ Ok (Site name arguments)
unfolding is_utf8 chars lib.Utf8.encode
site_back [] [] is_name ne is_text h utf8 = refl
site_back [] (b ∷ arguments) is_name ne is_text h utf8 =
    site_parameter_back [] is_name is_text ne (b ∷ arguments) h utf8
site_back (b ∷ name) arguments is_name ne is_text h utf8 =
    site_parameter_back (b ∷ name) is_name is_text ne arguments h utf8
