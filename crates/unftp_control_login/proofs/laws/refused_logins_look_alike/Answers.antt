use Rattle.unftp_control_login.proofs.AlikeLemmas.{logins-alike}
use Rattle.unftp_control_login.proofs.laws.refused_logins_look_alike.Goals as goal

pub returns : goal.returns
returns g c = λ said. logins-alike (g.H.Session.law said)
