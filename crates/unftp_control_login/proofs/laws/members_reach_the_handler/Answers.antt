use Rattle.unftp_control_login.proofs.MemberLemmas.{member-reaches, open-reaches, name-learned}
use Rattle.unftp_control_login.proofs.laws.members_reach_the_handler.Goals as goal

pub returns-clause-member : goal.returns-clause-member
returns-clause-member g c = λ said. member-reaches (g.H.Session.law said)

pub returns-clause-anyone : goal.returns-clause-anyone
returns-clause-anyone g c = λ said. open-reaches (g.H.Session.law said)

pub returns-clause-name : goal.returns-clause-name
returns-clause-name g c = λ said. name-learned (g.H.Session.law said)
