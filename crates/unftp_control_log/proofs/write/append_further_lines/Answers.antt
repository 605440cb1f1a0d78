use Rattle.std.proofs.Common.{flat_map, map, take, length, length-append, ap, arith, ◌∙◌}
use Rattle.unftp_control_defs.proofs.AppendLemmas.{kept_start, on_err}
use Rattle.unftp_control_log.specs.ExchangeLine.{further_line}
use Rattle.unftp_control_log.proofs.RoomLemmas.{so_far}
use Rattle.unftp_control_log.proofs.write.append_further_lines.Goals as goal

pub returns-in_err-append_further_line-clause-kept :
    goal.returns-in_err-append_further_line-clause-kept
returns-in_err-append_further_line-clause-kept c =
    kept_start (flat_map further_line (map (λ line. line.items) (take c.loop-line.line-index c.args.lines.now)))
    c.append_further_line.new.buf.items c.args.buf.now.ok.0
    (c.loop-line.buf.ok.0 ∙ ap length c.loop-line.invariant.items)
    (c.in_err-append_further_line.ensures.kept ∙ c.loop-line.invariant.items)

pub returns-in_err-append_further_line-clause-memory :
    goal.returns-in_err-append_further_line-clause-memory
returns-in_err-append_further_line-clause-memory c =
    let lacks = c.in_err-append_further_line.ensures.memory in
    on_err c.from_residual.result (omega (
      arith,
      lacks,
      c.loop-line.buf.ok.0,
      c.args.buf.now.ok.0,
      c.loop-line.invariant.capacity,
      ap length c.loop-line.invariant.items,
      length-append c.args.buf.now.items
          (flat_map further_line (map (λ line. line.items) (take c.loop-line.line-index c.args.lines.now))),
      so_far further_line (λ line. line.items) c.args.lines.now c.loop-line.line-index c.line-item.result c.loop-line-test.true,
      ap (λ line. length (further_line line.items)) c.line-item.is,
      ap (λ text. length (further_line text)) c.as_slice.ensures.value,
    ))
