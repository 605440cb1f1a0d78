use Rattle.std.proofs.Common.{[], ◌∷◌, lit<}
use Rattle.unftp_control_defs.specs.Bytes.{NUL, LF}
use Rattle.unftp_control_commands.proofs.ReplaceLemmas.{replaced-ok, replaced-exchanged}
use Rattle.unftp_control_commands.proofs.texts.without_line_feeds.Goals as goal

pub returns : goal.returns
returns c =
    let text = c.args.text.now in
    let found = replaced-ok c.replace.result LF (NUL ∷ []) text (lit< tt) c.replace.ensures.ok in
    rw (← replaced-exchanged LF NUL text) found
