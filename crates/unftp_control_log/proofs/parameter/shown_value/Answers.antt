use Rattle.std.proofs.Common.{if◌then◌else◌, None, option_map, sym, ap, ◌∙◌}
use Rattle.std.specs.Prelude.{option_and_then}
use Rattle.unftp_control_defs.specs.FtpCommand.{unless_empty}
use Rattle.unftp_control_message.specs.SentValues.{sent_value}
use Rattle.unftp_control_log.proofs.WordsLemmas.{not_empty, value_shown}
use Rattle.unftp_control_log.proofs.parameter.shown_value.Goals as goal

pub returns-in_err-value : goal.returns-in_err-value
returns-in_err-value c = λ line begins is.
    let value = option_map sent_value c.args.sent in
    ap (option_map sent_value) c.from_residual.ensures
    ∙ sym (value_shown line c.args.words value begins is
    ∙ ap (λ shows. if shows then option_and_then unless_empty value else None)
    (sym c.if-not-shows_parameter.ensures)
    ∙ ap (λ sent. option_and_then unless_empty (option_map sent_value sent)) c.in_err-value.was)

pub returns : goal.returns
returns c = λ line begins is.
    let value = option_map sent_value c.args.sent in
    sym (value_shown line c.args.words value begins is
    ∙ ap (λ shows. if shows then option_and_then unless_empty value else None)
    (sym c.if-not-shows_parameter.ensures)
    ∙ ap (λ sent. option_and_then unless_empty (option_map sent_value sent)) c.in_ok-value.was
    ∙ not_empty (sent_value c.in_ok-value.value) (sym c.if-is_empty.ensures))
