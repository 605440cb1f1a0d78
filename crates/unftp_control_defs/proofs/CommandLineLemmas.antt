-- A command that a line means has a line, and fields of their types.
use Rattle.std.proofs.Common.{◌≡◌, Bool, true, false, cond, [], Option, Some, None, Ok, bytes_eq, refl, codes}
use Rattle.std.specs.Str.{IsUtf8, is_utf8}
use Rattle.std.proofs.lemmas.Str.{IsUtf8-from_is_utf8}
use lib.Pointwise.{bytes_decides}
use Rattle.unftp_control_defs.specs.Bytes.{Bytes}
use Rattle.unftp_control_defs.specs.Lines.{IsLine}
use Rattle.unftp_control_defs.specs.Verbs.{verb_of, parameter_of, upper}
use Rattle.unftp_control_defs.specs.ComputedValue.{value_of}
use Rattle.unftp_control_defs.specs.FtpCommand.{FtpCommand, Outcome, InvalidUtf8, Nothing, kind, verbs}
use Rattle.unftp_control_defs.specs.Said.{HasTypedFields}
use Rattle.unftp_control_defs.specs.Rules.{row_of, subcommand_outcome, taken}
use Rattle.unftp_control_defs.specs.declared.verb.Kind.{Kind}
use Rattle.unftp_control_defs.specs.declared.verb.Kind.TheVariants as kinds
use Rattle.unftp_control_defs.specs.declared.verb.Verb.{Verb}
use Rattle.unftp_control_defs.specs.declared.verb.Verb.TheVariants as verb
use Rattle.unftp_control_defs.specs.Outcome.{outcome, parameter_outcome, site_outcome, value_outcome, word_outcome}
use Rattle.unftp_control_defs.specs.Canonical.{HasLine, IsUpperCaseName}
use Rattle.unftp_control_defs.proofs.SoundLemmas.{IsSound, Gives, passed, taken_gives}
use Rattle.unftp_control_defs.proofs.CaseLemmas.{IsUtf8-upper}
use Rattle.unftp_control_defs.proofs.LineEndLemmas.{EndsAtLf, IsLine-ends, parameter_of-ends, value_of-lacks}
use Rattle.unftp_control_defs.proofs.RuleLemmas.{IsNameOf, unnamed, verb_makes}
use Rattle.unftp_control_defs.proofs.UpperLemmas.{IsUpperCaseName-upper}
use Rattle.unftp_control_defs.proofs.VerbLemmas.{Cut-verb_of}

name_gives : (name : Bytes) → IsUpperCaseName name → IsUtf8 name → Gives (subcommand_outcome name)
name_gives name is_name is_text = by_test (bytes_eq name (codes "MD5")) refl
  where
    by_test : (test : Bool) → bytes_eq name (codes "MD5") ≡ test
        → Gives (cond test (taken kinds.Text verb.Md5 []) (taken kinds.OptionalText verb.Site name))
    by_test true e = taken_gives kinds.Text verb.Md5 [] (verb_makes verb.Md5 [] refl)
    by_test false e = taken_gives kinds.OptionalText verb.Site name (verb_makes verb.Site name (
      is_name,
      (λ q. let t : bytes_eq name (codes "MD5") ≡ true = (bytes_decides name (codes "MD5")).1 q in
          cc),
      is_text,
    ))

value_gives : (answer : Bytes → Outcome) → Gives answer → (parameter : Bytes) → EndsAtLf parameter
    → {command : FtpCommand} → value_outcome answer (value_of parameter) ≡ Ok command
    → IsSound command
value_gives answer gives parameter ends {command} e = by_option (value_of parameter) refl e
  where
    by_option : (o : Option Bytes) → value_of parameter ≡ o → value_outcome answer o ≡ Ok command
        → IsSound command
    by_option None q f = cc
    by_option (Some v) q f = gives v command (value_of-lacks parameter v ends q) f

-- the verb that is cut off, in upper case
pub uppercased_name : (line : Bytes) → IsUpperCaseName (upper (verb_of line))
uppercased_name line = IsUpperCaseName-upper (verb_of line) (Cut-verb_of line).no_separator

pub uppercased_utf8 : (line : Bytes) → is_utf8 (verb_of line) ≡ true → IsUtf8 (upper (verb_of line))
uppercased_utf8 line t = IsUtf8-upper (verb_of line) (IsUtf8-from_is_utf8 (verb_of line) t)

site_gives : (parameter : Bytes) → EndsAtLf parameter → (command : FtpCommand)
    → site_outcome parameter ≡ Ok command → IsSound command
site_gives parameter ends command e =
    let name : Bytes = upper (verb_of parameter) in
    let answer : Bytes → Outcome = subcommand_outcome name in
    let p = passed (is_utf8 (verb_of parameter))
    (value_outcome answer (value_of (parameter_of parameter))) InvalidUtf8 command e in
    value_gives answer (name_gives name (uppercased_name parameter) (uppercased_utf8 parameter p.0))
    (parameter_of parameter) (parameter_of-ends parameter ends) p.1

parameter_gives : (kind : Kind) (verb : Verb) (name : Bytes) → IsNameOf verb name
    → (parameter : Bytes) → EndsAtLf parameter → {command : FtpCommand}
    → parameter_outcome kind verb name parameter ≡ Ok command → IsSound command
parameter_gives kinds.Ignored verb name named parameter ends {command} e =
    verb_makes verb name named Nothing command (tt, tt) e
parameter_gives kinds.Subcommand verb name named parameter ends {command} e =
    site_gives parameter ends command e
parameter_gives kind verb name named parameter ends e =
    value_gives (taken kind verb name) (taken_gives kind verb name (verb_makes verb name named))
    parameter ends e

abbrev word_of : Bytes → Bytes
word_of line = upper (verb_of line)

outcome_sound : (line : Bytes) (command : FtpCommand) → IsLine line → outcome line ≡ Ok command
    → IsSound command
outcome_sound line command l e = by_row (row_of (word_of line) verbs) refl read.1
  where
    read : (is_utf8 (verb_of line) ≡ true)
        × (word_outcome (word_of line) (row_of (word_of line) verbs) (parameter_of line)
        ≡ Ok command)
    read = passed (is_utf8 (verb_of line))
        (word_outcome (word_of line) (row_of (word_of line) verbs)
        (parameter_of line)) InvalidUtf8 command e

    by_row : (row : Option Verb) → row_of (word_of line) verbs ≡ row
        → word_outcome (word_of line) row (parameter_of line) ≡ Ok command → IsSound command
    by_row None none q = parameter_gives kinds.OptionalText verb.Other (word_of line)
        (uppercased_name line, none, uppercased_utf8 line read.0) (parameter_of line)
        (parameter_of-ends line (IsLine-ends line l)) q
    by_row (Some verb) is q = parameter_gives (kind verb) verb [] (unnamed (word_of line) is)
        (parameter_of line) (parameter_of-ends line (IsLine-ends line l)) q

pub HasLine-outcome : (line : Bytes) (command : FtpCommand) → IsLine line
    → outcome line ≡ Ok command → HasLine command
HasLine-outcome line command l e = (outcome_sound line command l e).0

pub HasTypedFields-outcome : (line : Bytes) (command : FtpCommand) → IsLine line
    → outcome line ≡ Ok command → HasTypedFields command
HasTypedFields-outcome line command l e = (outcome_sound line command l e).1
