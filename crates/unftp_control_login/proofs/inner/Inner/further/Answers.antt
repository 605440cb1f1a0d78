use Rattle.unftp_control_login.proofs.CalledLemmas.{further-made}
use Rattle.unftp_control_login.proofs.inner.Inner.further.Goals as goal

pub returns-clause-calls : goal.returns-clause-calls
returns-clause-calls g c = λ w so. rw c.push.ensures
    (further-made c.args.self.now.calls c.args.self.now.refused c.further.result
    (c.further.ensures.answers w so))
