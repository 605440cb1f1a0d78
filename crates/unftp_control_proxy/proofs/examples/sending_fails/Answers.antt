use Rattle.std.proofs.Common.{arith}
use Rattle.unftp_control_proxy.proofs.ExampleLemmas.{noop_is_line, noop_may_be_sent}
use Rattle.unftp_control_proxy.proofs.examples.sending_fails.Goals as goal

pub returns-clause-full : goal.returns-clause-full
returns-clause-full c = λ proxy may six full. (may, rw six noop_may_be_sent, full)

pub returns-clause-no_room : goal.returns-clause-no_room
returns-clause-no_room c = λ proxy out may six length room.
    (may, rw six noop_may_be_sent, omega (arith, length, room))

pub returns-clause-no_room_unclear : goal.returns-clause-no_room_unclear
returns-clause-no_room_unclear c = λ proxy out may six length room.
    (may, noop_is_line, omega (arith, six), omega (arith, length, room))
