use Rattle.unftp_control_login.proofs.AlikeLemmas.{calls-hidden, errors-hidden}
use Rattle.unftp_control_login.proofs.laws.errors_hide_passwords.Goals as goal

pub returns-clause-errors : goal.returns-clause-errors
returns-clause-errors g c = λ said. errors-hidden (g.H.Session.law said)

pub returns-clause-calls : goal.returns-clause-calls
returns-clause-calls g c = λ said. calls-hidden (g.H.Session.law said)
