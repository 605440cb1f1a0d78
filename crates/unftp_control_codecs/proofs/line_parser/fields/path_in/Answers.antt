use Rattle.std.proofs.Common.{◌≡◌, refl, drop, sym, ap, ◌∙◌}
use Rattle.unftp_control_defs.specs.Paths.{path_of}
use Rattle.unftp_control_message.specs.SentValues.{unescaped, sent_value}
use Rattle.unftp_control_codecs.proofs.SentPathLemmas.{path_of-unescaped}
use Rattle.unftp_control_codecs.proofs.line_parser.fields.path_in.Goals as goal

pub returns-in-Escaped : goal.returns-in-Escaped
returns-in-Escaped c =
    let value : unescaped c.sent-2.result.now ≡ sent_value c.args.sent =
    ap unescaped c.sent-2.ensures ∙ rw c.in-Escaped.is refl in
    ap unescaped (c.split_at.ensures.back
    ∙ ap (drop c.path_start.result) (c.sent.ensures ∙ sym c.sent-2.ensures)
    ∙ c.path_start.ensures.path)
    ∙ sym (path_of-unescaped c.sent-2.result.now) ∙ ap path_of value
