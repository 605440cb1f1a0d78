use Rattle.std.proofs.Common.{codes, flat_map, take, length, length-append, ap, arith, ◌++◌, ◌∙◌}
use Rattle.std.specs.Net.Text.{hex}
use Rattle.unftp_control_defs.proofs.AppendLemmas.{kept_start, on_err}
use Rattle.unftp_control_address.proofs.TextLemmas.{so_far}
use Rattle.unftp_control_address.proofs.text.append_next_segments.Goals as goal

pub returns-in_err-append_next_segment-clause-kept : goal.returns-in_err-append_next_segment-clause-kept
returns-in_err-append_next_segment-clause-kept c =
    kept_start (flat_map (λ s. codes ":" ++ hex s) (take c.loop-segment.segment-index c.args.segments.now))
    c.append_next_segment.new.buf.items c.args.buf.now.ok.0
    (c.loop-segment.buf.ok.0 ∙ ap length c.loop-segment.invariant.items)
    (c.in_err-append_next_segment.ensures.kept ∙ c.loop-segment.invariant.items)

pub returns-in_err-append_next_segment-clause-memory : goal.returns-in_err-append_next_segment-clause-memory
returns-in_err-append_next_segment-clause-memory c =
    let lacks = c.in_err-append_next_segment.ensures.memory in
    on_err c.from_residual.result (omega (
      arith,
      lacks,
      c.loop-segment.buf.ok.0,
      c.args.buf.now.ok.0,
      c.loop-segment.invariant.capacity,
      ap length c.loop-segment.invariant.items,
      length-append c.args.buf.now.items
          (flat_map (λ s. codes ":" ++ hex s) (take c.loop-segment.segment-index c.args.segments.now)),
      so_far (λ s. codes ":" ++ hex s) c.args.segments.now c.loop-segment.segment-index 0 c.loop-segment-test.true,
    ))
