use Rattle.unftp_control_login.proofs.MemberLemmas.{guarded-members-alone}
use Rattle.unftp_control_login.proofs.laws.members_alone_are_served_in_bytes.Goals as goal

pub returns : goal.returns
returns g c = λ said. guarded-members-alone (g.H.Session.law said)
