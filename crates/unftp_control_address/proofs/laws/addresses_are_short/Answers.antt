use Rattle.std.proofs.Common.{rules, arith}
use Rattle.unftp_control_address.proofs.RoomLemmas.{extended_port_room, host_port_room, written_room}
use Rattle.unftp_control_address.proofs.laws.addresses_are_short.Goals as goal

pub returns-clause-host_port : goal.returns-clause-host_port
returns-clause-host_port c = host_port_room c.args.address.ip.octets c.args.address.port
    (search (rules, arith)) (λ i. search (rules, arith)) (search (rules, arith))

pub returns-clause-extended : goal.returns-clause-extended
returns-clause-extended c = written_room

pub returns-clause-extended_port : goal.returns-clause-extended_port
returns-clause-extended_port c = extended_port_room c.args.port c.ranges.port.fits
