use Rattle.unftp_control_login.proofs.CalledLemmas.{first-made}
use Rattle.unftp_control_login.proofs.inner.Inner.pass_on.Goals as goal

pub returns-clause-decided : goal.returns-clause-decided
returns-clause-decided g c = λ w so.
    let answer = c.first.ensures.answers w so in
    record {
      says = answer.says;
      next = answer.next;
      calls = rw c.push.ensures
          (first-made c.args.self.now.calls c.args.self.now.refused c.first.result answer);
    }
