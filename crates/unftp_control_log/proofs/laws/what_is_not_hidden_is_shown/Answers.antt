use Rattle.std.proofs.Common.{◌≡◌, Bool, true, false, not, [], ◌∷◌, length, Option, Some, None, Ok, Err, is_some, arith, eqb-true, refl, sym, ap, ◌∙◌}
use Rattle.std.specs.Prelude.{option_and_then}
use Rattle.std.proofs.lemmas.Bool.{false≢true}
use Rattle.std.proofs.lemmas.Option.{none-some}
use Rattle.unftp_control_defs.specs.Bytes.{Bytes}
use Rattle.unftp_control_defs.specs.ComputedValue.{value_of}
use Rattle.unftp_control_defs.specs.Events.{event_of}
use Rattle.unftp_control_defs.specs.FtpCommand.{Outcome, unless_empty, verbs}
use Rattle.unftp_control_defs.specs.Outcome.{outcome}
use Rattle.unftp_control_defs.specs.Rules.{row_of}
use Rattle.unftp_control_defs.specs.Verbs.{parameter_of, upper, verb_of}
use Rattle.unftp_control_defs.specs.declared.verb.Verb.{Verb as Ruled}
use Rattle.unftp_control_defs.specs.declared.verb.Verb.TheVariants as verbs_of
use Rattle.unftp_control_log.specs.Known.{fault_in, known_value}
use Rattle.unftp_control_log.specs.LogLine.{hides, hides_by, is_empty_value, parameter_by, shown_parameter, shown_value}
use Rattle.unftp_control_log.proofs.laws.what_is_not_hidden_is_shown.Goals as goal

not_false : (b : Bool) → not b ≡ false → b ≡ true
not_false true e = refl
not_false false e = absurd (false≢true (sym e))

abbrev row : Bytes → Option Ruled
row line = row_of (upper (verb_of line)) verbs

-- a line that is refused is hidden
by_answer : (answer : Outcome) (line : Bytes) → hides (event_of answer) line ≡ false
    → (fault_in (event_of answer) ≡ None) × (hides_by (row line) line ≡ false)
    × (known_value (event_of answer) line ≡ shown_value line)
by_answer (Ok command) line whole = (refl, whole, refl)
by_answer (Err refusal) line whole = absurd (false≢true (sym whole))

-- a parameter that is shown has a value
has_value : (r : Option Ruled) (line parameter : Bytes) → row line ≡ r
    → shown_parameter line ≡ Some parameter → hides_by r line ≡ false
    → is_some (option_and_then value_of (shown_parameter line)) ≡ true
has_value (Some verbs_of.Syst) line parameter is shows whole = absurd (none-some parameter
    (sym (ap (λ r. parameter_by r (parameter_of line)) is) ∙ shows))
has_value (Some verbs_of.Help) line parameter is shows whole = absurd (none-some parameter
    (sym (ap (λ r. parameter_by r (parameter_of line)) is) ∙ shows))
has_value r line parameter is shows whole = not_false _ whole

the_value : (value : Option Bytes) → is_some value ≡ true → (v : Bytes) × (value ≡ Some v)
the_value None some = absurd (false≢true some)
the_value (Some v) some = (v, refl)

-- where none is shown, there is none
is_empty : (value : Option Bytes) → is_empty_value value ≡ true → value ≡ Some []
is_empty None e = absurd (false≢true e)
is_empty (Some []) e = refl
is_empty (Some (b ∷ v)) e = absurd (omega (arith, eqb-true (length (b ∷ v)) 0 e))

has_none : (r : Option Ruled) (line : Bytes) → hides_by r line ≡ false
    → shown_parameter line ≡ None → value_of (parameter_of line) ≡ Some []
has_none (Some verbs_of.Syst) line whole none = is_empty _ (not_false _ whole)
has_none (Some verbs_of.Help) line whole none = is_empty _ (not_false _ whole)
has_none r line whole none = absurd (false≢true (sym whole
    ∙ ap (λ parameter. not (is_some (option_and_then value_of parameter))) none))

pub returns : goal.returns
returns c = record {
  command = λ line whole. (by_answer (outcome line) line whole).0;
  value = λ line parameter whole shows.
      let is = by_answer (outcome line) line whole in
      let some = has_value (row line) line parameter refl shows is.1 in
      let value = the_value (value_of parameter)
      (ap (λ p. is_some (option_and_then value_of p)) (sym shows) ∙ some) in (
        value.0,
        value.1,
        is.2 ∙ ap (λ p. option_and_then unless_empty (option_and_then value_of p)) shows
            ∙ ap (option_and_then unless_empty) value.1,
      );
  none = λ line whole shows.
      has_none (row line) line (by_answer (outcome line) line whole).1 shows;
}
