use Rattle.std.proofs.Common.{[], ◌∷◌, refl, arith, inl}
use Rattle.std.proofs.lemmas.Result.{err_from_is_err_and}
use Rattle.unftp_control_defs.proofs.InputLemmas.{WereRead-start}
use Rattle.example_callers.proofs.LogLemmas.{IsSent-nothing, Logging-stops_at, Logging-end, Logging-failed, Logging-next, Logging-stops, Logging-too_often}
use Rattle.example_callers.proofs.log.log_lines.Goals as goal

pub loop-turn-init : goal.loop-turn-init
loop-turn-init g c = rw c.with_limit-decoder.ensures record {
  all = record {
    pieces = [];
    were_read = WereRead-start _;
    sent = IsSent-nothing _;
    reads_failed = omega arith;
  };
  pending = refl;
  limited = refl;
  turns = omega arith;
}

pub returns-in_default-clause-ok : goal.returns-in_default-clause-ok
returns-in_default-clause-ok g c =
    Logging-end c.loop-turn.invariant (rw c.in_default.is at c.in-Ok.ensures)

pub returns-in-Err-clause-err : goal.returns-in-Err-clause-err
returns-in-Err-clause-err g c = Logging-failed c.loop-turn.invariant c.in-Err.ensures

pub returns-clause-err : goal.returns-clause-err
returns-clause-err g c =
    Logging-too_often c.loop-turn.invariant (omega (arith, c.loop-turn-test.false))

pub returns-in_err-push-clause-err : goal.returns-in_err-push-clause-err
returns-in_err-push-clause-err g c =
    let read = rw c.in-Some.is at c.in-Ok.ensures in
    let error = err_from_is_err_and c.from_residual.result c.from_residual.ensures.1 in
    rw (error.1, error.2)
    (Logging-stops c.loop-turn.invariant read _ (inl (refl, refl)))

pub returns-in_err-log_pending-clause-err : goal.returns-in_err-log_pending-clause-err
returns-in_err-log_pending-clause-err g c =
    let read = rw c.in-Some.is at c.in-Ok.ensures in
    let error = err_from_is_err_and c.from_residual-in_err-log_pending.result
    c.from_residual-in_err-log_pending.ensures.1 in
    rw (error.1, error.2)
    (Logging-stops_at c.loop-turn.invariant read c.in_ok-push.ensures.ok _
    c.in_err-log_pending.ensures.err)

pub loop-turn-preserved : goal.loop-turn-preserved
loop-turn-preserved g c =
    let read = rw c.in-Some.is at c.in-Ok.ensures in
    let ensured = c.in_ok-log_pending.ensures in
    Logging-next c.loop-turn.invariant read c.in_ok-push.ensures.ok ensured.ok ensured.pending
    ensured.limit
