use Rattle.unftp_control_commands.proofs.AreaLemmas.{cut_at, lacks_all}
use Rattle.unftp_control_commands.proofs.pieces.cut.Goals as goal

pub returns-in-Some : goal.returns-in-Some
returns-in-Some c =
    let first = c.in-Some.ensures in
    rw (c.split_at.ensures.front, c.split_at-in-Some.ensures.back)
    (cut_at c.args.byte c.args.bytes.now c.in-Some.at first.0.high first.1 first.0.before)

pub returns-in-None : goal.returns-in-None
returns-in-None c = lacks_all c.args.byte c.args.bytes.now c.in-None.ensures
