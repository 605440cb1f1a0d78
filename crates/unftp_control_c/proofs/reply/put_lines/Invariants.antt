use Rattle.std.proofs.Common.{◌≡◌, ◌++◌, length}
use Rattle.unftp_control_defs.specs.Bytes.{Bytes}
use Rattle.unftp_control_defs.specs.FtpReply.{MultiLine, encoded}
use Rattle.unftp_control_commands.specs.Areas.{HasText}
use Rattle.unftp_control_c.specs.Replies.{text_lines}
use Rattle.unftp_control_c.proofs.ReplyLemmas.{rest_of}
use Rattle.unftp_control_c.proofs.reply.put_lines.Given as goal

abbrev pub invariant-lines : goal.invariant-lines
invariant-lines l = (so_far : Bytes) × HasText l.fn.area so_far l.area l.len
    × (so_far ++ rest_of l.fn.code (text_lines l.rest)
    ≡ encoded (MultiLine l.fn.code (text_lines l.fn.text)))

abbrev pub decreases-lines : goal.decreases-lines
decreases-lines l = length l.rest
