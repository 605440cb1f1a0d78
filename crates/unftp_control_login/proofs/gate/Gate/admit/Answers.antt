use Rattle.std.proofs.lemmas.Result.{err_from_is_err_and}
use Rattle.unftp_control_login.proofs.CalledLemmas.{made-first}
use Rattle.unftp_control_login.proofs.GateLemmas.{logs-in}
use Rattle.unftp_control_login.proofs.gate.Gate.admit.Goals as goal

pub returns-in_err-tell-clause-decided : goal.returns-in_err-tell-clause-decided
returns-in_err-tell-clause-decided g c = λ w so.
    let error = err_from_is_err_and c.from_residual.result c.from_residual.ensures.1 in
    rw (error.1, error.2)
    (record { says = tt; next = tt; calls = made-first _ (c.in_err-tell.ensures.calls w so) })

pub returns-then-is_ok-clause-decided : goal.returns-then-is_ok-clause-decided
returns-then-is_ok-clause-decided g c = λ w so.
    let heard = rw c.own_reply-reply.ensures.handler at so in
    logs-in c.own_reply-reply.result (c.in_ok-tell.ensures.next w heard)
    (c.in_ok-tell.ensures.calls w heard) (c.own_reply-reply.ensures.decided w)

pub returns-else-is_ok-clause-decided : goal.returns-else-is_ok-clause-decided
returns-else-is_ok-clause-decided g c = λ w so.
    let heard = rw c.own_reply-reply.ensures.handler at so in
    logs-in c.own_reply-reply.result (c.in_ok-tell.ensures.next w heard)
    (c.in_ok-tell.ensures.calls w heard) (c.own_reply-reply.ensures.decided w)
