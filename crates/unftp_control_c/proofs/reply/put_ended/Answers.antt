use Rattle.std.proofs.Common.{◌++◌, subst, append_assoc}
use Rattle.unftp_control_defs.specs.Bytes.{crlf}
use Rattle.unftp_control_commands.specs.Areas.{HasText}
use Rattle.unftp_control_c.proofs.reply.put_ended.Goals as goal

pub returns : goal.returns
returns c = λ start text before.
    let line = c.args.line.now in
    subst (λ text. HasText start text c.put-2.new.area c.put-2.new.len)
    (append_assoc text line crlf)
    (c.put-2.ensures start (text ++ line) (c.put.ensures start text before))
