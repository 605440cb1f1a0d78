use Rattle.std.proofs.Common.{[], ◌∷◌, ap, arith, length, length-append, sym, ◌∙◌}
use Rattle.unftp_control_log.proofs.ShownTextLemmas.{all, left, left-start, one_more}
use Rattle.unftp_control_log.proofs.text.shown_length.Goals as goal

pub loop-byte-init : goal.loop-byte-init
loop-byte-init c = record {
  counted = omega arith;
  whole = sym (ap left c.into_iter-byte-iterator.ensures.into_iter_gives
      ∙ left-start c.escape_ascii-byte-items.result c.args.text.now
      c.escape_ascii-byte-items.ensures.bytes c.escape_ascii-byte-items.ensures.rest);
}

pub loop-byte-preserved : goal.loop-byte-preserved
loop-byte-preserved c = record {
  counted = omega (
    arith,
    c.saturating_add-length.ensures,
    c.loop-byte.invariant.counted,
    length-append c.loop-byte.yielded (c.in-Some._byte ∷ []),
  );
  whole = one_more c.loop-byte.yielded c.loop-byte._byte-iterator c.next.new.self
      c.in-Some._byte c.loop-byte.invariant.whole c.in-Some.ensures.steps;
}

pub returns : goal.returns
returns c = omega (
  arith,
  c.loop-byte.invariant.counted,
  ap length (all c.loop-byte.yielded c.loop-byte._byte-iterator c.next.new.self
      c.loop-byte.invariant.whole c.in-None.ensures.steps),
)
