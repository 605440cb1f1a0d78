use Rattle.std.proofs.Common.{sym, ◌∙◌, arith, ap, drop, ◌+◌}
use Rattle.unftp_control_defs.specs.Paths.{path_from}
use Rattle.unftp_control_codecs.proofs.PathLemmas.{word_step, dash_step, dash_end}
use Rattle.unftp_control_codecs.proofs.line_parser.fields.path_start.Goals as goal
use Rattle.unftp_control_codecs.proofs.line_parser.fields.path_start.Goals.{then-in_word, else-in_word+else-value-at-ne45+else-eq+else-starts_with}

pub returns-then-starts_with-clause-path : goal.returns-then-starts_with-clause-path
returns-then-starts_with-clause-path c = sym (c.loop-at.invariant.path
    ∙ rw c.if-in_word.false
    (dash_end c.args.value.now c.loop-at.at c.loop-at-test.true c.if-value-at-ne45.false
    (rw (c.split_at.ensures.back, c.as_slice.ensures) at (sym c.eq.ensures ∙ c.if-eq.false))
    (rw (c.split_at.ensures.back, c.as_slice-else-in_word.ensures) at
    (sym c.starts_with.ensures.value ∙ c.if-starts_with.true))))

pub loop-at-preserved : goal.loop-at-preserved
loop-at-preserved c = elim c.if-in_word.branch [
  | then-in_word w ↦ record {
    within = omega arith;
    path = c.loop-at.invariant.path ∙ ap (λ b. path_from b (drop c.loop-at.at c.args.value.now))
        w.if-in_word.true ∙ word_step c.args.value.now c.loop-at.at c.loop-at-test.true
        ∙ ap (λ b. path_from b (drop (c.loop-at.at + 1) c.args.value.now)) (sym w.in_word-is);
  }
  | else-in_word+else-value-at-ne45+else-eq+else-starts_with w ↦ record {
    within = omega arith;
    path = c.loop-at.invariant.path ∙ ap (λ b. path_from b (drop c.loop-at.at c.args.value.now))
        w.if-in_word.false
        ∙ dash_step c.args.value.now c.loop-at.at c.loop-at-test.true w.if-value-at-ne45.false
        (rw (w.split_at.ensures.back, w.as_slice.ensures) at (sym w.eq.ensures ∙ w.if-eq.false))
        (rw (w.split_at.ensures.back, w.as_slice-else-in_word.ensures) at
        (sym w.starts_with.ensures.value ∙ w.if-starts_with.false))
        ∙ ap (λ b. path_from b (drop (c.loop-at.at + 1) c.args.value.now)) (sym w.in_word-is);
  }
]
