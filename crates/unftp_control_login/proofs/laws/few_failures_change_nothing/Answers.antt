use Rattle.unftp_control_login.proofs.LimitLemmas.{says-unchanged, done-unchanged}
use Rattle.unftp_control_login.proofs.laws.few_failures_change_nothing.Goals as goal

pub returns-clause-says : goal.returns-clause-says
returns-clause-says g c = λ said s left event is few.
    says-unchanged (g.H.Session.law said) s left event is few

pub returns-clause-done : goal.returns-clause-done
returns-clause-done g c = λ said s left event is some few.
    done-unchanged (g.H.Session.law said) s left event is few some
