use Rattle.std.proofs.Common.{sym, ◌∙◌}
use Rattle.unftp_control_login.proofs.gate.Gate.refuse.Goals as goal

pub returns-then-count-clause-decided : goal.returns-then-count-clause-decided
returns-then-count-clause-decided g c = λ w.
    let own = c.own_reply.ensures.decided w in
    rw (sym c.count.ensures.last ∙ c.if-count.true)
    (record { says = own.says; next = own.next; calls = own.calls })

pub returns-clause-decided : goal.returns-clause-decided
returns-clause-decided g c = λ w.
    let own = c.own_reply-2.ensures.decided w in
    rw (sym c.count.ensures.last ∙ c.if-count.false)
    (record { says = own.says; next = own.next; calls = own.calls })
