use Rattle.std.proofs.Common.{◌+◌, ◌*◌, Some, None, arith, ◌∙◌, sym, subst}
use Rattle.unftp_control_codecs.specs.Values.{IsLaterLen}
use Rattle.unftp_control_message.proofs.SentLemmas.{some_in_run}
use Rattle.unftp_control_codecs.proofs.RunLemmas.{IsLaterLen-line_end, IsLaterLen-invalid, IsLaterLen-after_run, IsLaterLen-cr_nul, lens_added}
use Rattle.unftp_control_codecs.proofs.line_parser.value.later_len.Goals as goal

pub returns-then-begins_with_line_end : goal.returns-then-begins_with_line_end
returns-then-begins_with_line_end c = c.parts.invariant.later (Some c.fresh_len-end.result)
    (IsLaterLen-line_end c.parts.rest.now c.fresh_len-end.result c.fresh_len-end.ensures
    (rw c.split_at-else-begins_with_cr_nul.ensures.back at
    (sym c.begins_with_line_end.ensures ∙ c.if-begins_with_line_end.true)))

pub returns-then-not-begins_with_cr_nul : goal.returns-then-not-begins_with_cr_nul
returns-then-not-begins_with_cr_nul c = c.parts.invariant.later None
    (IsLaterLen-invalid c.parts.rest.now c.fresh_len-end.result c.fresh_len-end.ensures
    (rw c.split_at-else-begins_with_cr_nul.ensures.back at
    (sym c.begins_with_line_end.ensures ∙ c.if-begins_with_line_end.false))
    (rw c.split_at-else-begins_with_cr_nul.ensures.back at
    (sym c.begins_with_cr_nul-else-begins_with_cr_nul.ensures ∙ c.if-not-begins_with_cr_nul.true)))

pub parts-preserved : goal.parts-preserved
parts-preserved c =
    let back = c.split_at-else-begins_with_cr_nul.ensures.back in
    record {
      sizes = omega (
        arith,
        c.split_at-else-begins_with_cr_nul.ensures.back_len,
        c.split_at-else-begins_with_cr_nul-2.ensures.back_len,
      );
      later = λ later is. subst (IsLaterLen c.args.bytes.now)
          (lens_added c.parts.len (c.fresh_len-end.result + 2) later)
          (c.parts.invariant.later _
          (IsLaterLen-cr_nul c.parts.rest.now c.fresh_len-end.result c.fresh_len-end.ensures
          (rw back at (sym c.begins_with_line_end.ensures ∙ c.if-begins_with_line_end.false))
          (rw back at (sym c.begins_with_cr_nul-else-begins_with_cr_nul.ensures
          ∙ c.if-not-begins_with_cr_nul.false)) later
          (rw (c.split_at-else-begins_with_cr_nul-2.ensures.back, back) at is)));
    }

pub parts-preserved-then-begins_with_cr_nul : goal.parts-preserved-then-begins_with_cr_nul
parts-preserved-then-begins_with_cr_nul c = record {
  sizes = omega (
    arith,
    c.parts.invariant.sizes,
    c.cr_nul_count-run.ensures.within,
    c.split_at.ensures.back_len,
  );
  later = λ later is. subst (IsLaterLen c.args.bytes.now)
      (lens_added c.parts.len (2 * c.cr_nul_count-run.result) later)
      (c.parts.invariant.later _ (IsLaterLen-after_run c.parts.rest.now
      c.split_at.result.1.now c.cr_nul_count-run.result c.cr_nul_count-run.ensures.count
      c.split_at.ensures.back later is));
}

pub parts-smaller-then-begins_with_cr_nul : goal.parts-smaller-then-begins_with_cr_nul
parts-smaller-then-begins_with_cr_nul c = omega (
  arith,
  c.split_at.ensures.back_len,
  c.cr_nul_count-run.ensures.count,
  c.cr_nul_count-run.ensures.within,
  some_in_run c.parts.rest.now (sym c.begins_with_cr_nul.ensures ∙ c.if-begins_with_cr_nul.true),
)
