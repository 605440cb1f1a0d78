use Rattle.std.proofs.Common.{ap, ◌∙◌}
use Rattle.unftp_control_defs.specs.ComputedValue.{value_of}
use Rattle.unftp_control_defs.specs.Outcome.{outcome}
use Rattle.unftp_control_message.specs.PartsMeaning.{spelled}
use Rattle.unftp_control_log.specs.LogLine.{visible_said, visible_verb}
use Rattle.unftp_control_log.proofs.PartsLemmas.{of_parts}
use Rattle.unftp_control_log.proofs.WordsLemmas.{hides_command, of_words}
use Rattle.unftp_control_log.proofs.logged_line.Goals as goal

pub returns-in-Ok-clause-visible : goal.returns-in-Ok-clause-visible
returns-in-Ok-clause-visible c =
    let line = c.args.line.now in
    let value = c.parameter_value-sent.ensures ∙ ap value_of c.parameter.ensures in
    let said = (c.in-Ok.ensures.parts (outcome line) c.of-words.ensures.means).0.1 in
    c.visible_parts.ensures
    ∙ ap (visible_said (spelled c.in-Ok.parts)) (c.shown_value.ensures line c.of-words.ensures.begins value)
    ∙ of_parts (outcome line) (spelled c.in-Ok.parts) line said

pub returns-in-Ok-clause-hides : goal.returns-in-Ok-clause-hides
returns-in-Ok-clause-hides c =
    let line = c.args.line.now in
    let value = c.parameter_value-sent.ensures ∙ ap value_of c.parameter.ensures in
    let said = (c.in-Ok.ensures.parts (outcome line) c.of-words.ensures.means).0.1 in
    c.hides_part.ensures
    ∙ hides_command (outcome line) (spelled c.in-Ok.parts) line c.of-words.result _
    c.of-words.ensures.begins value said

pub returns-in-Ok-sent : goal.returns-in-Ok-sent
returns-in-Ok-sent c =
    let line = c.args.line.now in
    let words = c.of-words.result in
    let begins = c.of-words.ensures.begins in
    let sends = c.in-Ok-sent.ensures (outcome line) c.of-words.ensures.means in
    let shown = c.shown_value-in-Ok-sent.ensures line begins sends.0 in
    record {
      visible = c.visible_verb.ensures
          ∙ (λ i. visible_verb (c.verb.ensures i) (c.name.ensures i) (shown i))
          ∙ of_words (outcome line) words.verb words.name.now sends.1.0 line sends.1.1 sends.1.2.1;
      hides = c.hides_part-in-Ok-sent.ensures ∙ hides_command (outcome line)
          (record { verb = words.verb; name = words.name.now; value = sends.1.0 }) line words _
          begins sends.0 sends.1.2.1;
    }

pub logged_refusal-requires : goal.logged_refusal-requires
logged_refusal-requires c =
    c.in-Err.ensures.parts (outcome c.args.line.now) c.of-words.ensures.means
