use Rattle.std.proofs.Common.{decimal, flat_map, take, length, length-append, ap, arith, ◌∷◌, ◌∙◌}
use Rattle.unftp_control_defs.proofs.AppendLemmas.{kept_start, on_err}
use Rattle.unftp_control_address.proofs.TextLemmas.{so_far}
use Rattle.unftp_control_address.proofs.text.append_further.Goals as goal

pub returns-in_err-append_next-clause-kept : goal.returns-in_err-append_next-clause-kept
returns-in_err-append_next-clause-kept c =
    kept_start (flat_map (λ n. c.args.separator ∷ decimal n) (take c.loop-number.number-index c.args.numbers.now))
    c.append_next.new.buf.items c.args.buf.now.ok.0
    (c.loop-number.buf.ok.0 ∙ ap length c.loop-number.invariant.items)
    (c.in_err-append_next.ensures.kept ∙ c.loop-number.invariant.items)

pub returns-in_err-append_next-clause-memory : goal.returns-in_err-append_next-clause-memory
returns-in_err-append_next-clause-memory c =
    let lacks = c.in_err-append_next.ensures.memory in
    on_err c.from_residual.result (omega (
      arith,
      lacks,
      c.loop-number.buf.ok.0,
      c.args.buf.now.ok.0,
      c.loop-number.invariant.capacity,
      ap length c.loop-number.invariant.items,
      length-append c.args.buf.now.items
          (flat_map (λ n. c.args.separator ∷ decimal n) (take c.loop-number.number-index c.args.numbers.now)),
      so_far (λ n. c.args.separator ∷ decimal n) c.args.numbers.now c.loop-number.number-index 0 c.loop-number-test.true,
    ))
