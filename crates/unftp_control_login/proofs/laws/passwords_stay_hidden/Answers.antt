use Rattle.unftp_control_login.proofs.AlikeLemmas.{passwords-hidden}
use Rattle.unftp_control_login.proofs.laws.passwords_stay_hidden.Goals as goal

pub returns : goal.returns
returns g c = λ said. passwords-hidden (g.H.Session.law said)
