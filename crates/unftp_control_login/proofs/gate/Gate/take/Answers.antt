use Rattle.unftp_control_login.proofs.gate.Gate.take.Goals as goal

pub returns-in-NeedPassword-clause-decided : goal.returns-in-NeedPassword-clause-decided
returns-in-NeedPassword-clause-decided g c = λ w so.
    rw c.in-NeedPassword.is (c.need_password.ensures.decided w)

pub returns-in-NeedName-clause-decided : goal.returns-in-NeedName-clause-decided
returns-in-NeedName-clause-decided g c = λ w so.
    rw c.in-NeedName.is (c.refuse.ensures.decided w)

pub returns-in-NeedLogin-clause-decided : goal.returns-in-NeedLogin-clause-decided
returns-in-NeedLogin-clause-decided g c = λ w so.
    rw c.in-NeedLogin.is (c.turn_away.ensures.decided w)
