use Rattle.std.proofs.Common.{◌≡◌, ◌+◌, ◌*◌, ◌++◌, ◌∙◌, take, drop, ap, sym, arith, append_assoc}
use Rattle.std.proofs.lemmas.Grind.{common_steps}
use Rattle.unftp_control_message.specs.SentValues.{after_nul, unescaped}
use Rattle.unftp_control_message.proofs.SentLemmas.{rest_short, unescaped_at, unescaped_lacking, lacks_all, some_in_run, with_run}
use Rattle.unftp_control_message.proofs.sent.unescape.Goals as goal

pub returns-in_default : goal.returns-in_default
returns-in_default c = c.in_ok-extend_from_slice.ensures.items
    ∙ ap (λ t. c.parts.value.items ++ t)
    (sym (unescaped_lacking c.parts.rest.now (lacks_all c.parts.rest.now c.in_default.ensures)))
    ∙ sym c.parts.invariant.value

pub parts-preserved : goal.parts-preserved
parts-preserved c =
    let e = c.in-Some.ensures in
    let short = rest_short c.parts.rest.now c.split_at-else-begins_with_cr_nul.result.1.now c.after_nul-rest.result.now
    c.in-Some.end e.0.high c.split_at-else-begins_with_cr_nul.ensures.back c.after_nul-rest.ensures in
    let taken : c.parts.value.items ++ take (c.in-Some.end + 1) c.parts.rest.now
    ≡ c.extend_from_slice-else-begins_with_cr_nul.new.self.items =
    ap (λ t. c.parts.value.items ++ t) (sym c.split_at-else-begins_with_cr_nul.ensures.front)
    ∙ sym c.in_ok-extend_from_slice-2.ensures.items in
    let left : after_nul (drop (c.in-Some.end + 1) c.parts.rest.now)
    ≡ c.after_nul-rest.result.now =
    ap after_nul (sym c.split_at-else-begins_with_cr_nul.ensures.back) ∙ sym c.after_nul-rest.ensures in
    record {
      value = c.parts.invariant.value
          ∙ ap (λ t. c.parts.value.items ++ t)
          (unescaped_at c.parts.rest.now c.in-Some.end e.0.high e.1 e.0.before)
          ∙ sym (append_assoc c.parts.value.items (take (c.in-Some.end + 1) c.parts.rest.now)
          (unescaped (after_nul (drop (c.in-Some.end + 1) c.parts.rest.now))))
          ∙ (λ i. taken i ++ unescaped (left i));
      within = omega (
        arith,
        c.in_ok-extend_from_slice-2.ensures.len,
        c.split_at-else-begins_with_cr_nul.ensures.front_len,
        c.parts.invariant.within,
        short,
      );
    }

pub parts-preserved-then-begins_with_cr_nul : goal.parts-preserved-then-begins_with_cr_nul
parts-preserved-then-begins_with_cr_nul c = record {
  value = with_run c.args.sent.now c.parts.value.items c.resize.new.self.items c.parts.rest.now
      c.split_at.result.1.now _ _ c.parts.invariant.value
      (c.split_at.ensures.back
      ∙ ap (λ n. drop (2 * n) c.parts.rest.now) c.cr_nul_count-count.ensures.count)
      (omega (arith, c.len.ensures)) (grind (arith, common_steps)) c.in_ok-resize.ensures.items;
  within = omega (
    arith,
    c.len.ensures,
    c.in_ok-resize.ensures.len,
    c.split_at.ensures.back_len,
    c.cr_nul_count-count.ensures.within,
    c.parts.invariant.within,
  );
}

pub parts-smaller-then-begins_with_cr_nul : goal.parts-smaller-then-begins_with_cr_nul
parts-smaller-then-begins_with_cr_nul c = omega (
  arith,
  c.split_at.ensures.back_len,
  c.cr_nul_count-count.ensures.count,
  c.cr_nul_count-count.ensures.within,
  some_in_run c.parts.rest.now (sym c.begins_with_cr_nul.ensures ∙ c.if-begins_with_cr_nul.true),
)
