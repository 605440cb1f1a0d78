use Rattle.unftp_control_login.proofs.AlikeLemmas.{passwords-alike}
use Rattle.unftp_control_login.proofs.laws.refused_passwords_look_alike.Goals as goal

pub returns : goal.returns
returns g c = λ said. passwords-alike (g.H.Session.law said)
