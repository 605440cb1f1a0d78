use Rattle.unftp_control_login.proofs.AlikeLemmas.{accounts-hidden}
use Rattle.unftp_control_login.proofs.laws.accounts_stay_hidden.Goals as goal

pub returns : goal.returns
returns g c = λ said limit accepts other failures inner.
    accounts-hidden (g.H.Session.law said) limit accepts failures inner other
