use Rattle.std.proofs.Common.{refl}
use Rattle.std.proofs.lemmas.Result.{IfOk-weaker}
use Rattle.unftp_control_serve.specs.EventMeaning.{further_of}
use Rattle.unftp_control_login.specs.GateState.{asked_gate}
use Rattle.unftp_control_login.proofs.CalledLemmas.{made-counted, made-fails, made-quiet}
use Rattle.unftp_control_login.proofs.GateLemmas.{passes-on}
use Rattle.unftp_control_login.proofs.gate.GateSession.further.Goals as goal

pub returns-clause-calls : goal.returns-clause-calls
returns-clause-calls g c = λ w so. rw c.if-not-self.false (c.further.ensures.calls w so)

pub returns-clause-answers : goal.returns-clause-answers
returns-clause-answers g c = λ w so.
    let answer = c.further.ensures.answers w so in
    let calls = returns-clause-calls g c w so in
    record {
      follows = IfOk-weaker c.further.result _ _ (λ more follows. passes-on (g.H.Session.law w)
          (asked_gate g.A.Accounts.accepts g.H.Session.state c.args.self.now) (further_of more)
          c.if-not-self.false refl follows) answer.follows;
      fewer = answer.fewer;
      quiet = made-quiet _ calls;
      may_break = made-fails _ calls;
      counted = made-counted _ calls;
    }
