use Rattle.std.proofs.Common.{arith}
use Rattle.std.proofs.lemmas.Result.{err_from_is_err_and}
use Rattle.unftp_control_read.proofs.ReceiveLemmas.{received, refused, more_read, at_end, failed, bounded_at_read, bounded_at_failure}
use Rattle.unftp_control_read.proofs.decoder.ReplyDecoder.read_reply.Goals as goal

pub returns-in-Some-clause-receives : goal.returns-in-Some-clause-receives
returns-in-Some-clause-receives g c =
    let n = c.in_ok-reply.ensures in
    let takes = rw c.in-Some.is at n.takes_next in
    received c.loop-turn.invariant takes n.held

pub returns-in_err-reply-clause-receives : goal.returns-in_err-reply-clause-receives
returns-in_err-reply-clause-receives g c =
    let n = c.in_err-reply.ensures in
    let error = err_from_is_err_and c.from_residual.result c.from_residual.ensures.1 in
    rw (error.1, error.2) (refused c.loop-turn.invariant c.in_err-reply.field-0.0 n.takes_next.0
    n.takes_next.1 n.held)

pub returns-in_err-reply-clause-held : goal.returns-in_err-reply-clause-held
returns-in_err-reply-clause-held g c =
    rw c.in_err-reply.ensures.held c.loop-turn.invariant.held

pub returns-in-Some-clause-held : goal.returns-in-Some-clause-held
returns-in-Some-clause-held g c = rw c.in_ok-reply.ensures.held c.loop-turn.invariant.held

pub returns-in_err-fill_from-clause-held : goal.returns-in_err-fill_from-clause-held
returns-in_err-fill_from-clause-held g c =
    let n = c.in_ok-reply.ensures in
    bounded_at_failure c.loop-turn.invariant (rw c.in_default.is at n.takes_next) n.limit
    (rw c.in_default.is at n.buffered) n.held _ c.in_err-fill_from.ensures.0

pub returns-then-branch-eq0-clause-held : goal.returns-then-branch-eq0-clause-held
returns-then-branch-eq0-clause-held g c =
    let n = c.in_ok-reply.ensures in
    bounded_at_read c.loop-turn.invariant (rw c.in_default.is at n.takes_next) n.limit
    (rw c.in_default.is at n.buffered) n.held c.in_ok-fill_from.ensures.0 c.in_ok-fill_from.ensures.1

pub returns-in_err-fill_from-clause-receives : goal.returns-in_err-fill_from-clause-receives
returns-in_err-fill_from-clause-receives g c =
    let n = c.in_ok-reply.ensures in
    let error =
    err_from_is_err_and c.from_residual-in_err-fill_from.result
    c.from_residual-in_err-fill_from.ensures.1 in
    let none = rw c.in_default.is at n.takes_next in
    let held = rw c.in_default.is at n.buffered in
    rw (error.1, error.2) (failed c.loop-turn.invariant none n.limit held n.held _ c.in_err-fill_from.ensures)

pub returns-then-branch-eq0-clause-receives : goal.returns-then-branch-eq0-clause-receives
returns-then-branch-eq0-clause-receives g c =
    let n = c.in_ok-reply.ensures in
    let none = rw c.in_default.is at n.takes_next in
    let held = rw c.in_default.is at n.buffered in
    let ended = rw c.if-branch-eq0.true at c.in_ok-fill_from.ensures in
    at_end c.loop-turn.invariant none n.limit held n.held ended

pub loop-turn-preserved : goal.loop-turn-preserved
loop-turn-preserved g c =
    let n = c.in_ok-reply.ensures in
    let none = rw c.in_default.is at n.takes_next in
    let held = rw c.in_default.is at n.buffered in
    more_read c.loop-turn.invariant none n.limit held n.held c.in_ok-fill_from.field-0 c.in_ok-fill_from.ensures
    (omega (arith, c.if-branch-eq0.false))
