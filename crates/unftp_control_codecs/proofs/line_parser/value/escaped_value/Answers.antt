use Rattle.std.proofs.Common.{Some, ap, sym, ◌∙◌}
use Rattle.unftp_control_message.specs.SentValues.{unescaped}
use Rattle.unftp_control_codecs.proofs.line_parser.value.escaped_value.Goals as goal

pub returns : goal.returns
returns c = ap (λ sent. Some (unescaped sent)) c.split_at-2.ensures.front
    ∙ sym (c.requires.goes_on (Some c.in_ok-later_len.field-0)
    (rw c.split_at.ensures.back at c.in_ok-later_len.ensures)).1
