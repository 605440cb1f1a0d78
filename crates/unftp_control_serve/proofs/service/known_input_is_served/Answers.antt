use Rattle.unftp_control_serve.proofs.ServiceLemmas.{Serves-known}
use Rattle.unftp_control_serve.proofs.service.known_input_is_served.Goals as goal

pub returns : goal.returns
returns g c = λ said limit before after input input_after served s. Serves-known s
