use Rattle.std.proofs.Common.{[], ◌∷◌, lit<}
use Rattle.unftp_control_commands.specs.ReplyTexts.{QUOTE}
use Rattle.unftp_control_commands.proofs.ReplaceLemmas.{replaced-ok}
use Rattle.unftp_control_commands.proofs.texts.doubled_quotes.Goals as goal

pub returns : goal.returns
returns c = replaced-ok c.replace.result QUOTE (QUOTE ∷ QUOTE ∷ []) c.args.path.now
    (lit< tt) c.replace.ensures.ok
