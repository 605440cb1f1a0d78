use Rattle.std.proofs.Common.{◌++◌, ◌∙◌, ap, append_assoc, rules, take}
use Rattle.example_callers.proofs.TransferLemmas.{cut_off, heard_more, stored_all, stored_more, stored_part}
use Rattle.unftp_control_defs.proofs.AppendLemmas.{on_err}
use Rattle.example_callers.proofs.transfers.transfer.receive.Goals as goal

pub returns-in-Ok-eq0-clause-heard : goal.returns-in-Ok-eq0-clause-heard
returns-in-Ok-eq0-clause-heard g c =
    let received = heard_more c.loop-connection.invariant.storing.goes_on _ _
    c.receive.ensures.answered in
    let closed = c.close.ensures in (
      received.0 ++ closed.answers,
      closed.answered ∙ ap (λ answers. answers ++ closed.answers) received.1
          ∙ append_assoc _ received.0 closed.answers,
    )

pub returns-in-Ok-eq0-clause-ok : goal.returns-in-Ok-eq0-clause-ok
returns-in-Ok-eq0-clause-ok g c = stored_all c.loop-connection.invariant.storing _
    (rw (c.in-Ok-eq0.is, c.in-Ok-eq0.field-0-test) at c.receive.ensures.answered)
    c.close.ensures

pub returns-in_err-extend_from_slice-in-Ok-receive-clause-heard :
    goal.returns-in_err-extend_from_slice-in-Ok-receive-clause-heard
returns-in_err-extend_from_slice-in-Ok-receive-clause-heard g c =
    heard_more c.loop-connection.invariant.storing.goes_on _ _ c.receive.ensures.answered

pub returns-in-Err-clause-heard : goal.returns-in-Err-clause-heard
returns-in-Err-clause-heard g c =
    heard_more c.loop-connection.invariant.storing.goes_on _ _ c.receive.ensures.answered

pub returns-in-Err-clause-ok : goal.returns-in-Err-clause-ok
returns-in-Err-clause-ok g c = stored_part c.loop-connection.invariant.storing _
    (rw c.in-Err.is at c.receive.ensures.answered)

pub returns-in_err-extend_from_slice-in-Ok-receive-clause-ran_out :
    goal.returns-in_err-extend_from_slice-in-Ok-receive-clause-ran_out
returns-in_err-extend_from_slice-in-Ok-receive-clause-ran_out g c =
    on_err c.from_residual.result (cut_off c.loop-connection.invariant.storing _
    (take c.in-Ok-receive.n c.receive.new.buffer) (search rules)
    (rw c.in-Ok-receive.is at c.receive.ensures.answered))

pub loop-connection-preserved : goal.loop-connection-preserved
loop-connection-preserved g c = record {
  storing = stored_more c.loop-connection.invariant.storing _
      (take c.in-Ok-receive.n c.receive.new.buffer) (search rules)
      (rw c.in-Ok-receive.is at c.receive.ensures.answered) (search rules);
}
