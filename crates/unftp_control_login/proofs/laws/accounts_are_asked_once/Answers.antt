use Rattle.unftp_control_login.proofs.AskedLemmas.{asked-all}
use Rattle.unftp_control_login.proofs.laws.accounts_are_asked_once.Goals as goal

pub returns : goal.returns
returns g c = λ heard limit asked gate input. asked-all (g.H.Session.law heard) limit asked gate input
