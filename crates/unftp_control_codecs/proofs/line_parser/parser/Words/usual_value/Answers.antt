use Rattle.unftp_control_codecs.proofs.WordLemmas.{usual_raw, usual_text}
use Rattle.unftp_control_codecs.proofs.line_parser.parser.Words.usual_value.Goals as goal

pub returns-in_ok-value-in-Raw : goal.returns-in_ok-value-in-Raw
returns-in_ok-value-in-Raw c =
    let is = c.in_ok-value-in-Raw.ensures in
    usual_raw c.args.self c.in_ok-value-in-Raw.value.now is.some is.end is.value c.in-Raw.is

pub returns-in_ok-text-in-Text : goal.returns-in_ok-text-in-Text
returns-in_ok-text-in-Text c =
    let is = c.in_ok-value-in-Text.ensures in
    usual_text c.args.self c.in_ok-value-in-Text.value.now is.some is.end is.value c.in-Text.is
    c.in_ok-text-in-Text.ensures.1
