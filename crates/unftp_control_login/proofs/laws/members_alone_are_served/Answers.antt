use Rattle.unftp_control_login.proofs.MemberLemmas.{serves-members}
use Rattle.unftp_control_login.proofs.laws.members_alone_are_served.Goals as goal

pub returns : goal.returns
returns g c = λ said. serves-members (g.H.Session.law said)
