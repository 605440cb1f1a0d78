use Rattle.unftp_control_c.specs.Next.{call_with, left_with}
use Rattle.unftp_control_c.proofs.CallLemmas.{left_so, texts_left}
use Rattle.unftp_control_c.proofs.next.unftp_next.Goals as goal

pub returns-clause-texts : goal.returns-clause-texts
returns-clause-texts c =
    let call = call_with c.args.connection.now c.args.bytes.now c.args.area.now in
    let first = c.take_first in
    let left = left_with first.result first.new.connection first.new.area first.new.line in
    texts_left {call = call} left (left_so call left first.ensures.leaves)
