use Rattle.unftp_control.proofs.EpsvLemmas.{port_reply-injective}
use Rattle.unftp_control.proofs.laws.epsv_ports_differ.Goals as goal

pub returns : goal.returns
returns c = λ _ _. port_reply-injective
