use Rattle.std.proofs.Common.{inl, inr, length, take, refl, ap, ◌∙◌, arith}
use Rattle.unftp_control_defs.proofs.AppendLemmas.{on_err}
use Rattle.example_callers.proofs.transfers.transfer.store.Goals as goal

pub returns-in_err-extend_from_slice-clause-ran_out :
    goal.returns-in_err-extend_from_slice-clause-ran_out
returns-in_err-extend_from_slice-clause-ran_out g c = on_err c.from_residual.result (inr (inr (
  λ none. let empty = c.split.ensures.before ∙ ap (take c.args.offset) c.deref.ensures.value ∙ none
      in absurd (omega (
        arith,
        ap length empty,
        c.in_err-extend_from_slice.ensures.full,
        c.new-stored.ensures.len,
      )),
  refl,
)))

pub returns-in_err-ending-clause-ran_out : goal.returns-in_err-ending-clause-ran_out
returns-in_err-ending-clause-ran_out g c =
    on_err c.from_residual-in_err-ending.result (inr (inl c.in_err-ending.ensures.ran_out))

pub returns-in_err-reply-clause-ran_out : goal.returns-in_err-reply-clause-ran_out
returns-in_err-reply-clause-ran_out g c =
    let made = c.in_ok-ending.ensures.ok in
    on_err c.from_residual-in_err-reply.result (inl (c.in_ok-ending.ending, made.0, made.2))
