-- What a verb of the table makes of a line.
use Rattle.std.proofs.Common.{◌≡◌, true, false, if◌then◌else◌, [], Some, None, Err, codes, refl, sym, ap, ◌∙◌}
use Rattle.std.specs.List.{list_all}
use Rattle.std.specs.Str.{IsUtf8, is_utf8, chars}
use Rattle.std.proofs.lemmas.Bool.{false_from_ne_true, true_from_ne_false}
use Rattle.std.proofs.lemmas.Str.{IsUtf8-from_is_utf8, is_utf8-from_IsUtf8}
use Rattle.unftp_control_defs.specs.Bytes.{Bytes}
use Rattle.unftp_control_defs.specs.Verbs.{upper, verb_of, parameter_of}
use Rattle.unftp_control_defs.specs.FtpCommand.{InvalidUtf8, kind, verbs}
use Rattle.unftp_control_defs.specs.Rules.{row_of}
use Rattle.unftp_control_defs.specs.declared.verb.Kind.TheVariants as kinds
use Rattle.unftp_control_defs.specs.declared.verb.Verb.{Verb}
use Rattle.unftp_control_defs.specs.declared.verb.Verb.TheVariants as verb
use Rattle.unftp_control_defs.specs.Outcome.{outcome, parameter_outcome}
use Rattle.unftp_control_defs.proofs.CaseLemmas.{is_utf8-upper}
use Rattle.unftp_control_defs.proofs.WordLemmas.{none_of}

-- each verb is UTF-8
utf8_verbs : list_all (λ row. is_utf8 row.0) verbs ≡ true
unfolding is_utf8 chars lib.Utf8.encode
utf8_verbs = refl

pub named_utf8 : (word : Bytes) (verb : Verb) → row_of (upper word) verbs ≡ Some verb
    → is_utf8 word ≡ true
named_utf8 word verb e = true_from_ne_false (is_utf8 word) (λ ill.
    let none = none_of is_utf8 (upper word) verbs utf8_verbs (is_utf8-upper word ∙ ill) in cc)

pub outcome-named : (line : Bytes) {verb : Verb} → row_of (upper (verb_of line)) verbs ≡ Some verb
    → outcome line ≡ parameter_outcome (kind verb) verb [] (parameter_of line)
outcome-named line {verb} named = rw (named_utf8 (verb_of line) verb named, named)

pub outcome-other : (line : Bytes) → row_of (upper (verb_of line)) verbs ≡ None → outcome line
    ≡ (if is_utf8 (verb_of line)
    then parameter_outcome kinds.OptionalText verb.Other (upper (verb_of line)) (parameter_of line)
    else Err InvalidUtf8)
outcome-other line none = rw none

-- what is not UTF-8 fails the test
pub not_utf8 : (bytes : Bytes) → ¬ (IsUtf8 bytes) → is_utf8 bytes ≡ false
not_utf8 bytes ill = false_from_ne_true _ (λ t. ill (IsUtf8-from_is_utf8 bytes t))

-- no bytes are UTF-8, and so is a subcommand of this name
pub utf8_empty : is_utf8 [] ≡ true
unfolding is_utf8 chars lib.Utf8.encode
utf8_empty = refl

md5_is_utf8 : is_utf8 (codes "MD5") ≡ true
unfolding is_utf8 chars lib.Utf8.encode
md5_is_utf8 = refl

pub utf8_md5 : (word : Bytes) → upper word ≡ codes "MD5" → is_utf8 word ≡ true
utf8_md5 word is = sym (is_utf8-upper word) ∙ ap is_utf8 is ∙ md5_is_utf8

pub ruleset outcomes = (not_utf8, is_utf8-from_IsUtf8)
