use Rattle.std.proofs.Common.{[], ◌∷◌, lit<}
use Rattle.unftp_control_defs.specs.Bytes.{NUL, CR}
use Rattle.unftp_control_commands.proofs.ReplaceLemmas.{replaced-ok}
use Rattle.unftp_control_commands.proofs.texts.escaped_text.Goals as goal

pub returns : goal.returns
returns c = replaced-ok c.replace.result CR (CR ∷ NUL ∷ []) c.args.text.now
    (lit< tt) c.replace.ensures.ok
