use Rattle.unftp_control_login.proofs.MemberLemmas.{gated-all}
use Rattle.unftp_control_login.proofs.laws.gated_by_login.Goals as goal

pub returns : goal.returns
returns g c = λ said. gated-all (g.H.Session.law said)
