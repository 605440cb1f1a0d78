use Rattle.unftp_control_proxy.proofs.TrafficLemmas.{sends_only}
use Rattle.unftp_control_proxy.proofs.laws.nothing_else_is_sent.Goals as goal

pub returns : goal.returns
returns c before later traffic is = sends_only is
