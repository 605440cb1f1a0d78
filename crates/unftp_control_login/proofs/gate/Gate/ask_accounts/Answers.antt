use Rattle.std.proofs.Common.{◌≡◌, true, false, rules}
use Rattle.unftp_control_serve.specs.EventMeaning.{event_meant}
use Rattle.unftp_control_login.specs.Gate.{password_in}
use Rattle.unftp_control_login.proofs.gate.Gate.ask_accounts.Goals as goal

pub returns-then-ask-clause-decided : goal.returns-then-ask-clause-decided
returns-then-ask-clause-decided g c = λ w so.
    let old = c.args.self.now in
    let says : g.A.Accounts.accepts old.accounts.accounts old.stage.name
    (password_in (event_meant c.args.event.now)) ≡ true = search rules in
    rw says (rw c.replace-username.ensures.value at (c.admit.ensures.decided w so))

pub returns-clause-decided : goal.returns-clause-decided
returns-clause-decided g c = λ w so.
    let old = c.args.self.now in
    let says : g.A.Accounts.accepts old.accounts.accounts old.stage.name
    (password_in (event_meant c.args.event.now)) ≡ false = search rules in
    rw says (c.refuse.ensures.decided w)
