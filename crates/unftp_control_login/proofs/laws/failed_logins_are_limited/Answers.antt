use Rattle.unftp_control_login.proofs.LimitLemmas.{bounded}
use Rattle.unftp_control_login.proofs.laws.failed_logins_are_limited.Goals as goal

pub returns-clause-count : goal.returns-clause-count
returns-clause-count g c = λ said s left events is some.
    (bounded (g.H.Session.law said) s left events is some).few

pub returns-clause-last : goal.returns-clause-last
returns-clause-last g c = λ said s left events is some.
    (bounded (g.H.Session.law said) s left events is some).last
