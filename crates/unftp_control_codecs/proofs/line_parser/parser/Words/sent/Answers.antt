use Rattle.std.proofs.Common.{◌≡◌, Some, option_map, rules, sym, ap, ◌∙◌}
use Rattle.unftp_control_defs.specs.ComputedValue.{value_of}
use Rattle.unftp_control_message.specs.SentValues.{sent_value}
use Rattle.unftp_control_codecs.proofs.WordLemmas.{sends_ignored, sends_value}
use Rattle.unftp_control_codecs.proofs.line_parser.parser.Words.sent.Goals.{in-Ignored, in_default-matches, in_default-via-in-None+else-not-matches, in_default-via-in-Some+else-refuses}
use Rattle.unftp_control_codecs.proofs.line_parser.parser.Words.sent.Goals as goal

pub returns-in_default : goal.returns-in_default
returns-in_default c = λ answer are. elim c.in_default-1.branch [
  | in_default-via-in-Some+else-refuses w ↦
      let is : value_of c.args.self.parameter.now ≡ Some (sent_value w.in-Some.sent) =
      sym c.parameter_value.ensures ∙ ap (option_map sent_value) w.in-Some.is in (
        ap (option_map sent_value) w.sent-is ∙ sym is,
        sends_value c.args.self answer are c.in_ok-text_name.ensures.ok.1 (sent_value w.in-Some.sent)
            c.requires (sym w.refuses.ensures ∙ w.if-refuses.false) is,
      )
  | in_default-via-in-None+else-not-matches w ↦ (
    ap (option_map sent_value) w.sent-is ∙ c.parameter_value.ensures,
    sends_ignored c.args.self answer are c.in_ok-text_name.ensures.ok.1 (elim w.match-matches.branch [
      | in-Ignored x ↦ x.in-Ignored.is
      | in_default-matches x ↦ search rules
    ]),
  )
]
