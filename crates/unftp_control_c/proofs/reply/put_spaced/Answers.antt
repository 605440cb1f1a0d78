use Rattle.std.proofs.Common.{[], ◌∷◌, ◌++◌, subst, append_assoc}
use Rattle.unftp_control_defs.specs.Bytes.{SP, crlf}
use Rattle.unftp_control_commands.specs.Areas.{HasText}
use Rattle.unftp_control_c.proofs.reply.put_spaced.Goals as goal

pub returns : goal.returns
returns c = λ start text before.
    let line = c.args.line.now in
    subst (λ text. HasText start text c.put_ended.new.area c.put_ended.new.len)
    (append_assoc text (SP ∷ []) (line ++ crlf))
    (c.put_ended.ensures start (text ++ SP ∷ []) (c.put.ensures start text before))
