use Rattle.unftp_control_proxy.proofs.TrafficLemmas.{in_turn, nothing}
use Rattle.unftp_control_proxy.proofs.laws.traffic_is_joined.Goals as goal

pub returns : goal.returns
returns c = record {
  nothing = nothing;
  joined = λ before middle later first second one two. in_turn one two;
}
