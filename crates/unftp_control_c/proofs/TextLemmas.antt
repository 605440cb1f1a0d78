-- What is given of a command is UTF-8.
use Rattle.std.proofs.Common.{◌≡◌, ℕ, ◌&&◌, ◌==◌, Bool, true, false, cond, nat_lt, List, [], ◌∷◌, length, Option, Some, None, unwrap_or, Ok, Err, bytes_eq, codes, ◌^◌, refl, sym, subst, ◌∙◌, decimal}
use Rattle.std.specs.Prelude.{⊤}
use Rattle.std.specs.List.{AllByRecursion}
use Rattle.std.specs.Str.{IsUtf8, chars, is_utf8, all_ascii_digits}
use Rattle.std.specs.Str.Lossy.{utf8_lossy}
use Rattle.std.specs.Str.Parse.{digits_value, without_leading_plus}
use Rattle.std.proofs.lemmas.Bool.{and_parts, cond_both, false≢true, ltb-true}
use Rattle.std.proofs.lemmas.Fmt.{IsAscii-decimal}
use Rattle.std.proofs.lemmas.Str.{IsUtf8-from_ascii, IsUtf8-from_is_utf8, IsUtf8-nil}
use Rattle.unftp_control_defs.specs.Bytes.{Bytes}
use Rattle.unftp_control_defs.specs.ComputedValue.{value_of}
use Rattle.unftp_control_defs.specs.FtpCommand.{FtpCommand, Rest, Outcome, InvalidCommand, InvalidUtf8, Nothing, Text, Value, command_by, kind, maybe_raw, maybe_text, number, said, unless_empty, verbs, Said}
use Rattle.unftp_control_defs.specs.Outcome.{outcome, parameter_outcome, site_outcome, value_outcome, word_outcome}
use Rattle.unftp_control_defs.specs.Paths.{path_of}
use Rattle.unftp_control_defs.specs.Rules.{auth, buffer_sizes, chosen, mechanisms, modes, offset, optional_text, options, protections, row_of, structures, subcommand_outcome, taken, typed_outcome}
use Rattle.unftp_control_defs.specs.Said.{KindSaysBack, MeansCommand, SaysBack, value_bytes}
use Rattle.unftp_control_defs.specs.Verbs.{parameter_of, upper, verb_of}
use Rattle.unftp_control_defs.specs.declared.verb.Kind.{Kind}
use Rattle.unftp_control_defs.specs.declared.verb.Kind.TheVariants as kinds
use Rattle.unftp_control_defs.specs.declared.verb.Verb.{Verb}
use Rattle.unftp_control_defs.specs.declared.verb.Verb.TheVariants as verb
use Rattle.unftp_control_defs.proofs.CaseLemmas.{is_utf8-upper}
use Rattle.unftp_control_defs.proofs.LossyLemmas.{IsUtf8-path_of, IsUtf8-utf8_lossy}
use Rattle.unftp_control_defs.proofs.SaidLemmas.{fits, other_fits, site_fits}
use Rattle.unftp_control_codecs.proofs.TextLemmas.{optional_says}
use Rattle.unftp_control_c.specs.Next.{AreTexts, given_of, has_any_bytes}

abbrev SaysTexts : Said → Type 0
SaysTexts parts = AreTexts (given_of parts).number (given_of parts).name (given_of parts).value

-- So does the command of an outcome, where it is one.
abbrev pub GivesTexts : Outcome → Type 0
GivesTexts (Ok command) = SaysTexts (said command)
GivesTexts (Err refusal) = ⊤

means_texts : (answer : Outcome) (parts : Said) → MeansCommand answer parts → SaysTexts parts
    → GivesTexts answer
means_texts (Ok command) parts means texts = subst SaysTexts (sym means) texts
means_texts (Err refusal) parts means texts = tt

-- a text, or none where it is empty
maybe_utf8 : (text : Bytes) → IsUtf8 text
    → IsUtf8 (unwrap_or (value_bytes (maybe_text (unless_empty text))) [])
maybe_utf8 [] utf8 = utf8
maybe_utf8 (b ∷ text) utf8 = utf8

optional_utf8 : (v : Bytes) → IsUtf8 (unwrap_or (value_bytes (optional_text v)) [])
optional_utf8 [] = IsUtf8-nil
optional_utf8 (b ∷ v) = IsUtf8-utf8_lossy (b ∷ v)

-- What the verbs with a value of their own type make of it.
abbrev IsWord : Bytes × FtpCommand → Type 0
IsWord row = ((said row.1).name ≡ [])
    × (is_utf8 (unwrap_or (value_bytes (said row.1).value) []) ≡ true)

word_texts : (command : FtpCommand) → (said command).name ≡ []
    → is_utf8 (unwrap_or (value_bytes (said command).value) []) ≡ true → GivesTexts (Ok command)
word_texts command nameless utf8 =
    (subst IsUtf8 (sym nameless) IsUtf8-nil, λ _. IsUtf8-from_is_utf8 _ utf8)

chosen_texts : (rows : List (Bytes × FtpCommand)) → AllByRecursion IsWord rows → (v : Bytes)
    → GivesTexts (chosen rows v)
chosen_texts [] each v = tt
chosen_texts (row ∷ rows) each v = cond_both (bytes_eq row.0 v) (Ok row.1) (chosen rows v)
    GivesTexts (λ _. word_texts row.1 each.0.0 each.0.1) (λ _. chosen_texts rows each.1 v)

mechanisms_are : AllByRecursion IsWord mechanisms
unfolding is_utf8 chars lib.Utf8.encode
mechanisms_are = ((refl, refl), ((refl, refl), tt))

structures_are : AllByRecursion IsWord structures
unfolding is_utf8 chars lib.Utf8.encode
structures_are = ((refl, refl), ((refl, refl), ((refl, refl), tt)))

modes_are : AllByRecursion IsWord modes
unfolding is_utf8 chars lib.Utf8.encode
modes_are = ((refl, refl), ((refl, refl), ((refl, refl), tt)))

protections_are : AllByRecursion IsWord protections
unfolding is_utf8 chars lib.Utf8.encode
protections_are = ((refl, refl), ((refl, refl), ((refl, refl), ((refl, refl), tt))))

options_are : AllByRecursion IsWord options
unfolding is_utf8 chars lib.Utf8.encode
options_are = ((refl, refl), ((refl, refl), ((refl, refl), ((refl, refl), tt))))

buffer_sizes_are : AllByRecursion IsWord buffer_sizes
unfolding is_utf8 chars lib.Utf8.encode
buffer_sizes_are = ((refl, refl), tt)

auth_texts : (v : Bytes) → GivesTexts (auth v)
auth_texts v = cond_both (nat_lt 3 (length v)) (Err InvalidCommand)
    (cond (is_utf8 v) (chosen mechanisms (upper v)) (Err InvalidUtf8)) GivesTexts (λ _. tt)
    (λ _. cond_both (is_utf8 v) (chosen mechanisms (upper v)) (Err InvalidUtf8) GivesTexts
    (λ _. chosen_texts mechanisms mechanisms_are (upper v)) (λ _. tt))

offset_texts : (text : Bytes) → GivesTexts (offset text)
offset_texts text =
    let digits : Bytes = without_leading_plus text in
    let n : ℕ = digits_value 10 digits in
    let are_digits : Bool = nat_lt 0 (length digits) && all_ascii_digits digits in
    cond_both (are_digits && nat_lt n (2 ^ 64)) (Ok (Rest n)) (Err InvalidCommand) GivesTexts
    (λ is. (
      IsUtf8-nil,
      λ _. IsUtf8-from_ascii (decimal n) (IsAscii-decimal n
          (ltb-true n (2 ^ 64) (and_parts are_digits (nat_lt n (2 ^ 64)) is).1)),
    ))
    (λ _. tt)

typed_texts : (verb : Verb) (v : Bytes) → GivesTexts (typed_outcome verb v)
typed_texts verb.Stru v = chosen_texts structures structures_are v
typed_texts verb.Mode v = chosen_texts modes modes_are v
typed_texts verb.Prot v = chosen_texts protections protections_are v
typed_texts verb.Opts v = chosen_texts options options_are v
typed_texts verb.Pbsz v = chosen_texts buffer_sizes buffer_sizes_are v
typed_texts verb.Auth v = auth_texts v
typed_texts verb.Rest v = offset_texts (utf8_lossy v)
typed_texts verb v = tt

-- a verb whose values are the bytes that were sent is one of those
abbrev IsNamedRaw : Kind → Verb → Type 0
IsNamedRaw kinds.Raw verb = has_any_bytes (number verb) ≡ true
IsNamedRaw _ verb = ⊤

named_raw : (verb : Verb) → IsNamedRaw (kind verb) verb
named_raw verb.User = refl
named_raw verb.Pass = refl
named_raw verb.Acct = refl
named_raw verb.Stat = refl
named_raw verb = tt

-- What a verb with this name makes of a value, and of a parameter.
module _ (verb : Verb) (name : Bytes) (utf8 : IsUtf8 name) where
  says_texts : (value : Value) → SaysBack verb name value
      → (has_any_bytes (number verb) ≡ false → IsUtf8 (unwrap_or (value_bytes value) []))
      → GivesTexts (command_by verb name value)
  says_texts value says text = means_texts (command_by verb name value)
      (record { verb = verb; name = name; value = value }) says.1 (utf8, text)

  taken_texts : (kind : Kind) → KindSaysBack kind verb name → IsNamedRaw kind verb → (v : Bytes)
      → GivesTexts (taken kind verb name v)
  taken_texts kinds.Alone says raw v = cond_both (length v == 0) (command_by verb name Nothing)
      (Err InvalidCommand) GivesTexts (λ _. says_texts Nothing says (λ _. IsUtf8-nil)) (λ _. tt)
  taken_texts kinds.Raw says raw v = says_texts (maybe_raw (unless_empty v)) (says v)
      (λ no. absurd (false≢true (sym no ∙ raw)))
  taken_texts kinds.Text says raw v = cond_both (length v == 0) (Err InvalidCommand)
      (command_by verb name (Text (utf8_lossy v))) GivesTexts (λ _. tt)
      (λ _. says_texts (Text (utf8_lossy v)) (says (utf8_lossy v)) (λ _. IsUtf8-utf8_lossy v))
  taken_texts kinds.OptionalText says raw v = says_texts (optional_text v)
      (optional_says verb name says v) (λ _. optional_utf8 v)
  taken_texts kinds.Listing says raw v =
      let path : Bytes = path_of (utf8_lossy v) in
      says_texts (maybe_text (unless_empty path)) (says path)
      (λ _. maybe_utf8 path (IsUtf8-path_of (utf8_lossy v) (IsUtf8-utf8_lossy v)))
  taken_texts kinds.Typed says raw v = typed_texts verb v
  taken_texts kinds.Ignored says raw v = tt
  taken_texts kinds.Subcommand says raw v = tt

  value_texts : (kind : Kind) → KindSaysBack kind verb name → IsNamedRaw kind verb
      → (value : Option Bytes) → GivesTexts (value_outcome (taken kind verb name) value)
  value_texts kind says raw None = tt
  value_texts kind says raw (Some v) = taken_texts kind says raw v

upper_utf8 : (word : Bytes) → is_utf8 word ≡ true → IsUtf8 (upper word)
upper_utf8 word is = IsUtf8-from_is_utf8 (upper word) (is_utf8-upper word ∙ is)

subcommand_texts : (name : Bytes) → IsUtf8 name → (value : Option Bytes)
    → GivesTexts (value_outcome (subcommand_outcome name) value)
subcommand_texts name utf8 None = tt
subcommand_texts name utf8 (Some v) = cond_both (bytes_eq name (codes "MD5"))
    (taken kinds.Text verb.Md5 []) (taken kinds.OptionalText verb.Site name)
    (λ answer. GivesTexts (answer v))
    (λ _. taken_texts verb.Md5 [] IsUtf8-nil kinds.Text (fits verb.Md5) tt v)
    (λ _. taken_texts verb.Site name utf8 kinds.OptionalText (site_fits name) tt v)

site_texts : (parameter : Bytes) → GivesTexts (site_outcome parameter)
site_texts parameter = cond_both (is_utf8 (verb_of parameter))
    (value_outcome (subcommand_outcome (upper (verb_of parameter)))
    (value_of (parameter_of parameter)))
    (Err InvalidUtf8) GivesTexts
    (λ is. subcommand_texts (upper (verb_of parameter)) (upper_utf8 (verb_of parameter) is)
    (value_of (parameter_of parameter)))
    (λ _. tt)

parameter_texts : (kind : Kind) (verb : Verb) (name : Bytes) → IsUtf8 name
    → KindSaysBack kind verb name → IsNamedRaw kind verb → (parameter : Bytes)
    → GivesTexts (parameter_outcome kind verb name parameter)
parameter_texts kinds.Ignored verb name utf8 says raw parameter =
    says_texts verb name utf8 Nothing says (λ _. IsUtf8-nil)
parameter_texts kinds.Subcommand verb name utf8 says raw parameter = site_texts parameter
parameter_texts kind verb name utf8 says raw parameter =
    value_texts verb name utf8 kind says raw (value_of parameter)

pub outcome_texts : (line : Bytes) → GivesTexts (outcome line)
outcome_texts line = cond_both (is_utf8 (verb_of line))
    (word_outcome (upper (verb_of line)) (row_of (upper (verb_of line)) verbs) (parameter_of line))
    (Err InvalidUtf8) GivesTexts
    (λ is. by_row (row_of (upper (verb_of line)) verbs) is) (λ _. tt)
  where
    by_row : (row : Option Verb) → is_utf8 (verb_of line) ≡ true
        → GivesTexts (word_outcome (upper (verb_of line)) row (parameter_of line))
    by_row None is = parameter_texts kinds.OptionalText verb.Other (upper (verb_of line))
        (upper_utf8 (verb_of line) is) (other_fits (upper (verb_of line))) tt (parameter_of line)
    by_row (Some verb) is = parameter_texts (kind verb) verb [] IsUtf8-nil (fits verb)
        (named_raw verb) (parameter_of line)
