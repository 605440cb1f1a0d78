use Rattle.std.proofs.Common.{arith, ap, sym, ◌∙◌, Some}
use Rattle.std.specs.Str.Parse.{digits_value}
use Rattle.unftp_control_address.proofs.NumberLemmas.{step, spelled, taken_all}
use Rattle.unftp_control_address.proofs.number.number.Goals as goal

pub overflow_mul-number : goal.overflow_mul-number
overflow_mul-number c =
    let s = step c.args.most c.args.text.now c.loop-byte.byte-index (sym c.is_number.ensures ∙ c.if-not-is_number.false) c.requires c.loop-byte-test.true in
    omega (arith, c.loop-byte.invariant, s.value, s.small)

pub overflow_add-number : goal.overflow_add-number
overflow_add-number c =
    let s = step c.args.most c.args.text.now c.loop-byte.byte-index (sym c.is_number.ensures ∙ c.if-not-is_number.false) c.requires c.loop-byte-test.true in
    omega (arith, c.loop-byte.invariant, s.value, s.small, c.from.ensures)

pub loop-byte-preserved : goal.loop-byte-preserved
loop-byte-preserved c =
    let s = step c.args.most c.args.text.now c.loop-byte.byte-index (sym c.is_number.ensures ∙ c.if-not-is_number.false) c.requires c.loop-byte-test.true in
    omega (arith, c.loop-byte.invariant, s.value, c.from.ensures)

pub returns : goal.returns
returns c =
    ap Some (c.loop-byte.invariant ∙ ap (digits_value 10) (taken_all c.args.text.now c.loop-byte.byte-index c.loop-byte-test.false))
    ∙ sym (spelled c.args.most c.args.text.now (sym c.is_number.ensures ∙ c.if-not-is_number.false) c.requires)
