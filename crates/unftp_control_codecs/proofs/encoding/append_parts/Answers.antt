use Rattle.std.proofs.Common.{◌≡◌, ◌∙◌, OnErr, ap, map, string_bytes, subst, sym}
use Rattle.unftp_control_defs.specs.FtpReply.{FtpReply, MultiLine, encoded}
use Rattle.unftp_control_defs.specs.Room.{LacksRoom}
use Rattle.unftp_control_message.specs.ReplyMeaning.{reply_of}
use Rattle.unftp_control_codecs.proofs.encoding.append_parts.Goals as goal

pub returns-in-MultiLine-clause-memory : goal.returns-in-MultiLine-clause-memory
returns-in-MultiLine-clause-memory c =
    let is : MultiLine c.number-in-MultiLine.result (map string_bytes c.as_slice.result.now)
    ≡ reply_of c.args.reply.now =
    (λ i. MultiLine (c.number-in-MultiLine.ensures i)
    (map string_bytes (c.as_slice.ensures.value i))) ∙ sym (ap reply_of c.in-MultiLine.is) in
    subst (λ (reply : FtpReply).
    OnErr c.append_lines.result (LacksRoom c.args.buf.now (encoded reply)))
    is c.append_lines.ensures.memory
