use Rattle.std.proofs.Common.{◌++◌, ap, sym, ◌∙◌, take-append-drop}
use Rattle.unftp_control_defs.specs.ComputedValue.{value_of}
use Rattle.unftp_control_codecs.proofs.RunLemmas.{value_of-usual}
use Rattle.unftp_control_codecs.proofs.line_parser.value.usual_value.Goals as goal

pub returns-then-is_plain-clause-value : goal.returns-then-is_plain-clause-value
returns-then-is_plain-clause-value c =
    let end = sym c.split_at.ensures.back ∙ c.is_crlf.ensures c.if-not-is_crlf.false in
    ap value_of (sym (take-append-drop c.saturating_sub.result c.args.parameter.now)
    ∙ (λ i. sym c.split_at.ensures.front i ++ end i))
    ∙ value_of-usual c.split_at.result.0.now
    (c.is_plain.ensures c.if-is_plain.true)
