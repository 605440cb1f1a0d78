use Rattle.std.proofs.Common.{[], refl, ◌∙◌}
use Rattle.std.proofs.lemmas.Result.{err_from_is_err_and}
use Rattle.unftp_control_serve.proofs.ClientLineLemmas.{MayRunOut-taken}
use Rattle.example_callers.proofs.LogLemmas.{Halfway-all, Halfway-end, Halfway-next, Halfway-stops, IsSent-nothing, entry_is}
use Rattle.example_callers.proofs.log.log_pending.Goals as goal

pub loop-event-init : goal.loop-event-init
loop-event-init g c =
    record { logged = []; limited = refl; split = refl; same_end = refl; sent = IsSent-nothing _ }

pub returns-in_err-event-clause-err : goal.returns-in_err-event-clause-err
returns-in_err-event-clause-err g c =
    let error = err_from_is_err_and c.from_residual.result c.from_residual.ensures.1 in
    let next = MayRunOut-taken c.loop-event.decoder.bytes c.in_err-event.ensures.may_run_out in
    rw (error.1, error.2) (Halfway-stops c.loop-event.invariant next.2 refl)

pub returns-in-None-clause-ok : goal.returns-in-None-clause-ok
returns-in-None-clause-ok g c =
    Halfway-all c.loop-event.invariant (rw c.in-None.is at c.in_ok-event.ensures.takes_next)

pub returns-in-None-clause-pending : goal.returns-in-None-clause-pending
returns-in-None-clause-pending g c =
    Halfway-end c.loop-event.invariant (rw c.in-None.is at c.in_ok-event.ensures.takes_next)

pub loop-event-preserved : goal.loop-event-preserved
loop-event-preserved g c =
    let first = rw c.in-Some.is at c.in_ok-event.ensures.takes_next in
    let line = c.line.ensures ∙ (rw c.in-Some.is at c.in_ok-event.ensures.line) in
    Halfway-next c.loop-event.invariant _ first line c.in_ok-event.ensures.limit
    c.in_ok-written.ensures

pub returns-in_err-written-clause-err : goal.returns-in_err-written-clause-err
returns-in_err-written-clause-err g c =
    let first = rw c.in-Some.is at c.in_ok-event.ensures.takes_next in
    let line = c.line.ensures ∙ (rw c.in-Some.is at c.in_ok-event.ensures.line) in
    let error = err_from_is_err_and c.from_residual-in_err-written.result
    c.from_residual-in_err-written.ensures.1 in
    rw (error.1, error.2) (Halfway-stops c.loop-event.invariant first.takes
    (rw (entry_is c.loop-event.invariant _ first line) at c.in_err-written.ensures))
