use Rattle.std.proofs.Common.{arith}
use Rattle.unftp_control_c.specs.NextReply.{line, none, refused}
use Rattle.unftp_control_c.proofs.next_reply.unftp_next_reply_line.Goals as goal

pub returns-then-line-bytes : goal.returns-then-line-bytes
returns-then-line-bytes c = rw c.number.ensures (refused (omega (arith, c.if-line-bytes.true)))

pub returns-in-None : goal.returns-in-None
returns-in-None c =
    rw c.number-in-None.ensures (none (omega (arith, c.if-line-bytes.false)) c.in-None.ensures)

pub returns-in-Some : goal.returns-in-Some
returns-in-Some c = rw c.number-in-Some.ensures (line c.in-Some.ensures)
