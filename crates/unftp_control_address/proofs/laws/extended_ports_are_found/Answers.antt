use Rattle.unftp_control_address.proofs.ExtendedLemmas.{port_back}
use Rattle.unftp_control_address.proofs.laws.extended_ports_are_found.Goals as goal

pub returns : goal.returns
returns c = port_back c.args.port c.ranges.port.fits
