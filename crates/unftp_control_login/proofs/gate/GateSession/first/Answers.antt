use Rattle.std.proofs.Common.{◌≡◌, ap, rules, ◌∙◌}
use Rattle.unftp_control_serve.specs.EventMeaning.{event_meant}
use Rattle.unftp_control_login.specs.Login.{login_after, login_step, role_in}
use Rattle.unftp_control_login.proofs.GateLemmas.{gate-answers, passed-at}
use Rattle.unftp_control_login.proofs.gate.GateSession.first.Goals as goal

pub returns-clause-answers : goal.returns-clause-answers
returns-clause-answers g c = λ w so.
    let old = c.args.self.now in
    let event = event_meant c.args.event in
    let take = c.take.ensures in
    let is : c.step-step.result ≡ login_step old.stage.progress (role_in event) = search rules in
    let after : c.after-self.result ≡ login_after old.stage.progress (role_in event) =
    search rules in
    gate-answers g.A.Accounts.accepts g.H.Session.state g.H.Session.failures (g.H.Session.law w)
    old c.take.new.self event c.take.result (rw is at (take.decided w so))
    (ap g.A.Accounts.accepts take.kept.0) (rw is at take.left) (rw (is, after) at take.stage)
    (search rules) (rw is at (take.kept.2 ∙ c.passes_on-self.ensures
    ∙ passed-at old.limit.left c.step-step.result
    (g.A.Accounts.accepts old.accounts.accounts) old.stage.name event)) (search rules)

pub returns-clause-calls : goal.returns-clause-calls
returns-clause-calls g c = λ w so.
    let is : c.step-step.result
    ≡ login_step c.args.self.now.stage.progress (role_in (event_meant c.args.event)) = search rules in
    rw is at (c.take.ensures.decided w so).calls
