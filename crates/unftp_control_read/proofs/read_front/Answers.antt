use Rattle.std.proofs.Common.{List, subst, sym}
use Rattle.unftp_control_defs.specs.Bytes.{Bytes}
use Rattle.unftp_control_defs.specs.ReplyReader.{FrontReply}
use Rattle.unftp_control_read.proofs.read_front.Goals as goal

pub returns-in-Ok-clause-front : goal.returns-in-Ok-clause-front
returns-in-Ok-clause-front c =
    let found = (rw c.in-Whole.is at c.find_front.ensures.finds) c.requires in
    subst (λ (lines : List Bytes). FrontReply c.args.bytes.now c.in-Whole.code lines c.in-Whole.used)
    (sym (c.in-Ok.ensures c.in-Whole.code found.0.0 c.in-Whole.used found.0.1)) found.0.1
