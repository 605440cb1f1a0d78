use Rattle.std.proofs.Common.{rules}
use Rattle.unftp_control_message.proofs.TextLemmas.{styled_texts-append}
use Rattle.unftp_control_message.proofs.reply.error.ControlChanErrorKindDisplay.fmt.Goals as goal

pub returns-in-UnknownCommand-clause-styled : goal.returns-in-UnknownCommand-clause-styled
returns-in-UnknownCommand-clause-styled g c flush ok =
    let first = c.write_str.ensures.styled flush (search rules) in
    let second = c.write_str-in-UnknownCommand.ensures.styled first.flush ok in
    let both = styled_texts-append g.W.Write.write_str_gives _ _ _ _ _ first second in
    search rules

pub returns-clause-styled : goal.returns-clause-styled
returns-clause-styled g c = search rules
