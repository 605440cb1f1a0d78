use Rattle.std.proofs.Common.{◌≡◌, length}
use Rattle.unftp_control_address.specs.HostPorts.{first_host_port}
use Rattle.unftp_control_address.proofs.host_port.find_host_port.Given as goal

abbrev pub invariant-loop-address : goal.invariant-loop-address
invariant-loop-address l = first_host_port l.text ≡ first_host_port l.rest

abbrev pub decreases-loop-address : goal.decreases-loop-address
decreases-loop-address l = length l.rest
