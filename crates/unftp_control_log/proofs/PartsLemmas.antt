-- What a log shows of what a line says is what it shows of the line's event.
use Rattle.std.proofs.Common.{◌≡◌, ◌||◌, Ok, Err, Option, is_some, bytes_eq, [], ◌∷◌, refl, sym, ap, ◌∙◌}
use Rattle.std.specs.List.{list_any}
use Rattle.std.proofs.lemmas.Str.Ascii.{uppercase-uppercase}
use Rattle.unftp_control_defs.specs.Bytes.{Bytes}
use Rattle.unftp_control_defs.specs.Events.{event_of}
use Rattle.unftp_control_defs.specs.FtpCommand.{Outcome, Said, verbs}
use Rattle.unftp_control_defs.specs.Rules.{row_of}
use Rattle.unftp_control_defs.specs.Said.{MeansCommand}
use Rattle.unftp_control_defs.specs.Verbs.{upper}
use Rattle.unftp_control_defs.specs.declared.verb.Verb.{Verb as Ruled}
use Rattle.unftp_control_defs.specs.declared.verb.Verb.TheVariants as verbs_of
use Rattle.unftp_control_log.specs.LogLine.{further_verbs, shown_value, site_words, visible, visible_other, visible_said, visible_site, visible_value, visible_verb}

pub upper-upper : (text : Bytes) → upper (upper text) ≡ upper text
upper-upper [] = refl
upper-upper (b ∷ text) = λ i. uppercase-uppercase b i ∷ upper-upper text i

-- the case of a name says nothing
verb_in_any_case : (verb : Ruled) (name : Bytes) (value : Option Bytes)
    → visible_verb verb (upper name) value ≡ visible_verb verb name value
verb_in_any_case verbs_of.Other name value =
    ap (λ u. visible_other (is_some (row_of u verbs) || list_any (bytes_eq u) further_verbs) u)
    (upper-upper name)
verb_in_any_case verbs_of.Site name value =
    ap (λ u. visible_site (row_of u site_words) u value) (upper-upper name)
verb_in_any_case verb name value = refl

pub of_parts : (answer : Outcome) (parts : Said) (line : Bytes)
    → MeansCommand answer (record parts { name = upper parts.name })
    → visible_said parts (shown_value line) ≡ visible (event_of answer) line
of_parts (Ok command) parts line is = sym (
    ap (λ parts. visible_said parts (shown_value line)) is
    ∙ verb_in_any_case parts.verb parts.name (visible_value parts.value (shown_value line)))
of_parts (Err refusal) parts line is = absurd is
