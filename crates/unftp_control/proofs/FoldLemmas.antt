-- Verbs and SITE subcommands are read ignoring ASCII case.
use Rattle.std.proofs.Common.{◌≡◌, cond, Err, refl, sym, ap, ◌∙◌, codes}
use Rattle.std.specs.Str.{is_utf8, chars}
use Rattle.unftp_control_defs.specs.Bytes.{Bytes}
use Rattle.unftp_control_defs.specs.Verbs.{Cut, upper}
use Rattle.unftp_control_defs.specs.ComputedValue.{value_of}
use Rattle.unftp_control_defs.specs.FtpCommand.{Outcome, InvalidUtf8, verbs}
use Rattle.unftp_control_defs.specs.Rules.{row_of, subcommand_outcome}
use Rattle.unftp_control_defs.specs.Outcome.{outcome, site_outcome, value_outcome, word_outcome}
use Rattle.unftp_control_defs.proofs.CaseLemmas.{is_utf8-upper}
use Rattle.unftp_control_defs.proofs.VerbLemmas.{Cut-unique}

-- what the line means, from its parts
abbrev meaning : Bytes → Bytes → Outcome
meaning verb parameter = cond (is_utf8 verb)
    (word_outcome (upper verb) (row_of (upper verb) verbs) parameter)
    (Err InvalidUtf8)

abbrev site_meaning : Bytes → Bytes → Outcome
site_meaning name arguments =
    cond (is_utf8 name) (value_outcome (subcommand_outcome (upper name)) (value_of arguments))
    (Err InvalidUtf8)

outcome-Cut : (line verb parameter : Bytes) → Cut line verb parameter
    → outcome line ≡ meaning verb parameter
outcome-Cut line verb parameter cut = let same = Cut-unique line verb parameter cut in
    λ i. meaning (sym same.0 i) (sym same.1 i)

site_outcome-Cut : (parameter name arguments : Bytes) → Cut parameter name arguments
    → site_outcome parameter ≡ site_meaning name arguments
site_outcome-Cut parameter name arguments cut =
    let same = Cut-unique parameter name arguments cut in
    λ i. site_meaning (sym same.0 i) (sym same.1 i)

same_utf8 : (text other : Bytes) → upper text ≡ upper other → is_utf8 text ≡ is_utf8 other
same_utf8 text other e = sym (is_utf8-upper text) ∙ ap is_utf8 e ∙ is_utf8-upper other

pub outcome-verb_case : {line other verb other_verb parameter : Bytes} → Cut line verb parameter
    → Cut other other_verb parameter → upper verb ≡ upper other_verb → outcome line ≡ outcome other
outcome-verb_case {line} {other} {verb} {other_verb} {parameter} a b e =
    outcome-Cut line verb parameter a
    ∙ (λ i. cond (same_utf8 verb other_verb e i) (word_outcome (e i) (row_of (e i) verbs) parameter)
    (Err InvalidUtf8))
    ∙ sym (outcome-Cut other other_verb parameter b)

site_case : (name other_name arguments : Bytes) → upper name ≡ upper other_name
    → site_meaning name arguments ≡ site_meaning other_name arguments
site_case name other_name arguments e =
    λ i. cond (same_utf8 name other_name e i)
    (value_outcome (subcommand_outcome (e i)) (value_of arguments)) (Err InvalidUtf8)

site_written : (parameter : Bytes) → meaning (codes "SITE") parameter ≡ site_outcome parameter
unfolding is_utf8 chars lib.Utf8.encode
site_written parameter = refl

-- a line of SITE means what its name says
at_site : {line verb parameter : Bytes} → Cut line verb parameter → upper verb ≡ codes "SITE"
    → outcome line ≡ site_outcome parameter
at_site {line} {verb} {parameter} cut e =
    let utf8 : is_utf8 verb ≡ is_utf8 (codes "SITE") = sym (is_utf8-upper verb) ∙ ap is_utf8 e in
    outcome-Cut line verb parameter cut
    ∙ ap (λ t. cond t (word_outcome (upper verb) (row_of (upper verb) verbs) parameter)
    (Err InvalidUtf8)) utf8
    ∙ ap (λ t. cond (is_utf8 (codes "SITE")) (word_outcome t (row_of t verbs) parameter)
    (Err InvalidUtf8)) e
    ∙ site_written parameter

pub outcome-name_case : {line other verb other_verb parameter other_parameter name other_name
    arguments : Bytes}
    → Cut line verb parameter → Cut other other_verb other_parameter → upper verb ≡ codes "SITE"
    → upper other_verb ≡ codes "SITE"
    → Cut parameter name arguments → Cut other_parameter other_name arguments
    → upper name ≡ upper other_name → outcome line ≡ outcome other
outcome-name_case {parameter} {other_parameter} {name} {other_name} {arguments} a b s t c d e =
    at_site a s
    ∙ site_outcome-Cut parameter name arguments c
    ∙ site_case name other_name arguments e
    ∙ sym (site_outcome-Cut other_parameter other_name arguments d)
    ∙ sym (at_site b t)
