use Rattle.std.proofs.Common.{rules}
use Rattle.unftp_control_message.proofs.TextLemmas.{styled_texts-append}
use Rattle.unftp_control_message.proofs.reply.error.parse_error.ParseErrorDisplay.fmt.Goals as goal

pub returns-clause-styled : goal.returns-clause-styled
returns-clause-styled g c flush ok =
    let first = c.write_str.ensures.styled flush (search rules) in
    let second = c.fmt.ensures.styled first.flush ok in
    let both = styled_texts-append g.W.Write.write_str_gives _ _ _ _ _ first second in
    search rules
