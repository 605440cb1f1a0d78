use Rattle.unftp_control_login.proofs.LimitLemmas.{quit-ends}
use Rattle.unftp_control_login.proofs.laws.quit_ends_the_session.Goals as goal

pub returns : goal.returns
returns g c = λ said. quit-ends (g.H.Session.law said)
