-- What is shown of the words that a line begins with is what is shown of the line.
use Rattle.std.proofs.Common.{◌≡◌, ◌≢◌, ◌==◌, ◌&&◌, Bool, false, true, not, if◌then◌else◌, List, [], ◌∷◌, length, Option, None, Some, is_some, Ok, Err, refl, sym, ap, subst, ◌∙◌, ⊎_elim}
use Rattle.std.specs.List.{AllByRecursion, list_all}
use Rattle.std.proofs.lemmas.Bool.{and_parts, false≢true}
use Rattle.unftp_control_defs.proofs.RuleLemmas.{found}
use Rattle.std.specs.Prelude.{option_and_then}
use Rattle.unftp_control_codecs.specs.WordsMeaning.{BeginsWithWords, IsOfRow, IsUntyped}
use Rattle.unftp_control_codecs.specs.declared.line_parser.parser.Words.{Words}
use Rattle.unftp_control_defs.specs.Bytes.{Bytes}
use Rattle.unftp_control_defs.specs.ComputedValue.{value_of}
use Rattle.unftp_control_defs.specs.Events.{event_of}
use Rattle.unftp_control_defs.specs.FtpCommand.{Chosen, Number, Outcome, Said, Value, unless_empty, verbs}
use Rattle.unftp_control_defs.specs.Rules.{row_of}
use Rattle.unftp_control_defs.specs.Said.{MeansCommand}
use Rattle.unftp_control_defs.specs.Verbs.{parameter_of, upper, verb_of}
use Rattle.unftp_control_defs.specs.declared.verb.Verb.{Verb as Ruled}
use Rattle.unftp_control_defs.specs.declared.verb.Verb.TheVariants as verbs_of
use Rattle.unftp_control_log.specs.LogLine.{hides, hides_after, hides_by, parameter_by, shown_parameter, shown_value, shows_after, visible, visible_value, visible_verb}
use Rattle.unftp_control_log.proofs.PartsLemmas.{of_parts}

-- no row is of another verb
abbrev is_other : Ruled → Bool
is_other verbs_of.Other = true
is_other verb = false

each_ruled : (rows : List (Bytes × Ruled)) → list_all (λ row. not (is_other row.1)) rows ≡ true
    → AllByRecursion (λ row. not (is_other row.1) ≡ true) rows
each_ruled [] all = tt
each_ruled (row ∷ rows) all =
    let parts = and_parts (not (is_other row.1)) (list_all (λ row. not (is_other row.1)) rows) all in
    (parts.0, each_ruled rows parts.1)

all_ruled : list_all (λ row. not (is_other row.1)) verbs ≡ true
all_ruled = refl

not_other : (word : Bytes) → row_of word verbs ≡ Some verbs_of.Other → ⊥
not_other word is = false≢true
    (found (λ word verb. not (is_other verb) ≡ true) word verbs (each_ruled verbs all_ruled) is)

after_ruled : (ruled : Ruled) (name parameter : Bytes) → ruled ≢ verbs_of.Other
    → ruled ≢ verbs_of.Site → parameter_by (Some ruled) parameter
    ≡ (if shows_after ruled name then Some parameter else None)
after_ruled verbs_of.Other name parameter ruled alone = absurd (ruled refl)
after_ruled verbs_of.Site name parameter ruled alone = absurd (alone refl)
after_ruled verb name parameter ruled alone = refl

by_row : (row : Option Ruled) (line : Bytes) (words : Words)
    → row_of (upper (verb_of line)) verbs ≡ row → IsOfRow row line words
    → parameter_by row (parameter_of line)
    ≡ (if shows_after words.verb words.name.now then Some words.parameter.now else None)
by_row None line words row is = rw is.0
by_row (Some verbs_of.Site) line words row is = ⊎_elim
    (λ md5. rw (md5.0, is.0, md5.1))
    (λ other. rw (other.0, is.0, other.1))
    is.1
by_row (Some ruled) line words row is =
    ap (parameter_by (Some ruled)) (sym is.1)
    ∙ after_ruled ruled words.name.now words.parameter.now
    (λ other. not_other (upper (verb_of line)) (row ∙ ap Some other)) (λ site. cc)
    ∙ (λ i. if shows_after (sym is.0 i) words.name.now then Some words.parameter.now else None)

pub shown : (line : Bytes) (words : Words) → BeginsWithWords line words → shown_parameter line
    ≡ (if shows_after words.verb words.name.now then Some words.parameter.now else None)
shown line words begins = by_row (row_of (upper (verb_of line)) verbs) line words refl begins

pub not_empty : (v : Bytes) → (length v == 0) ≡ false → unless_empty v ≡ Some v
not_empty [] e = absurd (false≢true (sym e))
not_empty (b ∷ v) e = refl

-- the value that is shown of words whose parameter has this one
pub value_shown : (line : Bytes) (words : Words) (value : Option Bytes) → BeginsWithWords line words
    → value ≡ value_of words.parameter.now → shown_value line
    ≡ (if shows_after words.verb words.name.now then option_and_then unless_empty value else None)
value_shown line words value begins is = by_test (shows_after words.verb words.name.now)
    (shown line words begins)
  where
    by_test : (test : Bool)
        → shown_parameter line ≡ (if test then Some words.parameter.now else None)
        → shown_value line ≡ (if test then option_and_then unless_empty value else None)
    by_test true e = rw (e, is)
    by_test false e = rw e

by_test : (test : Bool) (parameter : Bytes)
    → is_some (option_and_then value_of (if test then Some parameter else None))
    ≡ (test && is_some (value_of parameter))
by_test true parameter = refl
by_test false parameter = refl

-- what is shown of a line decides it, but for SYST and HELP
by_shown : (line : Bytes) (words : Words) → BeginsWithWords line words
    → not (is_some (option_and_then value_of (shown_parameter line)))
    ≡ not (shows_after words.verb words.name.now && is_some (value_of words.parameter.now))
by_shown line words begins = ap not
    (ap (λ parameter. is_some (option_and_then value_of parameter)) (shown line words begins)
    ∙ by_test (shows_after words.verb words.name.now) words.parameter.now)

abbrev IsPlain : Ruled → Bytes → Option Bytes → Type 0
IsPlain verb name value =
    hides_after verb name value ≡ not (shows_after verb name && is_some value)

plain : (verb ruled : Ruled) (name : Bytes) (value : Option Bytes) → verb ≡ ruled
    → IsPlain ruled name value → IsPlain verb name value
plain verb ruled name value is ruled_plain =
    subst (λ verb. IsPlain verb name value) (sym is) ruled_plain

hides_row : (row : Option Ruled) (line : Bytes) (words : Words) → BeginsWithWords line words
    → IsOfRow row line words
    → hides_by row line ≡ hides_after words.verb words.name.now (value_of words.parameter.now)
hides_row None line words begins is =
    by_shown line words begins ∙ sym (plain words.verb verbs_of.Other words.name.now _ is.0 refl)
hides_row (Some verbs_of.Syst) line words begins is = rw (is.0, is.1)
hides_row (Some verbs_of.Help) line words begins is = rw (is.0, is.1)
hides_row (Some verbs_of.Site) line words begins is = by_shown line words begins ∙ sym (⊎_elim
    (λ md5. plain words.verb verbs_of.Md5 words.name.now _ md5.0 refl)
    (λ other. plain words.verb verbs_of.Site words.name.now _ other.0 refl)
    is.1)
hides_row (Some ruled) line words begins is =
    by_shown line words begins ∙ sym (plain words.verb ruled words.name.now _ is.0 refl)

pub hidden : (line : Bytes) (words : Words) → BeginsWithWords line words
    → hides_by (row_of (upper (verb_of line)) verbs) line
    ≡ hides_after words.verb words.name.now (value_of words.parameter.now)
hidden line words begins = hides_row (row_of (upper (verb_of line)) verbs) line words begins begins

untyped_shown : (value : Value) (sent : Option Bytes) → IsUntyped value
    → visible_value value sent ≡ sent
untyped_shown (Chosen choice) sent untyped = absurd untyped
untyped_shown (Number number) sent untyped = absurd untyped
untyped_shown value sent untyped = refl

-- What is shown of the words is what is shown of the line's event.
pub of_words : (answer : Outcome) (verb : Ruled) (name : Bytes) (value : Value) (line : Bytes)
    → IsUntyped value
    → MeansCommand answer (record { verb = verb; name = upper name; value = value })
    → visible_verb verb name (shown_value line) ≡ visible (event_of answer) line
of_words answer verb name value line untyped is =
    ap (visible_verb verb name) (sym (untyped_shown value (shown_value line) untyped))
    ∙ of_parts answer (record { verb = verb; name = name; value = value }) line is

-- a command hides what its words hide
pub hides_command : (answer : Outcome) (parts : Said) (line : Bytes) (words : Words)
    (value : Option Bytes) → BeginsWithWords line words → value ≡ value_of words.parameter.now
    → MeansCommand answer (record parts { name = upper parts.name })
    → hides_after words.verb words.name.now value ≡ hides (event_of answer) line
hides_command (Ok command) parts line words value begins is said =
    ap (hides_after words.verb words.name.now) is ∙ sym (hidden line words begins)
hides_command (Err refusal) parts line words value begins is said = absurd said
