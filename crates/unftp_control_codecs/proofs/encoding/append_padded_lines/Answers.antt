use Rattle.std.proofs.Common.{flat_map, map, take, length, length-append, ap, arith, ◌∙◌}
use Rattle.unftp_control_codecs.specs.Encoding.{padded_line}
use Rattle.unftp_control_defs.proofs.AppendLemmas.{kept_start, on_err}
use Rattle.unftp_control_codecs.proofs.EncodingLemmas.{lines_so_far}
use Rattle.unftp_control_codecs.proofs.encoding.append_padded_lines.Goals as goal

pub returns-in_err-append_padded_line-clause-kept : goal.returns-in_err-append_padded_line-clause-kept
returns-in_err-append_padded_line-clause-kept g c =
    kept_start
    (flat_map padded_line (map g.S.AsSlice.items (take c.loop-line.line-index c.args.lines.now)))
    c.append_padded_line.new.buf.items c.args.buf.now.ok.0
    (c.loop-line.buf.ok.0 ∙ ap length c.loop-line.invariant.items)
    (c.in_err-append_padded_line.ensures.kept ∙ c.loop-line.invariant.items)

pub returns-in_err-append_padded_line-clause-memory :
    goal.returns-in_err-append_padded_line-clause-memory
returns-in_err-append_padded_line-clause-memory g c =
    let lacks = rw c.as_slice.ensures at c.in_err-append_padded_line.ensures.memory in
    let so_far = rw (← c.line-item.is) at
    (lines_so_far g.S.AsSlice.items c.args.lines.now c.loop-line.line-index c.line-item.result
    c.loop-line-test.true) in
    let front = map g.S.AsSlice.items (take c.loop-line.line-index c.args.lines.now) in
    on_err c.from_residual.result (omega (
      arith,
      lacks,
      c.loop-line.buf.ok.0,
      c.args.buf.now.ok.0,
      c.loop-line.invariant.capacity,
      ap length c.loop-line.invariant.items,
      length-append c.args.buf.now.items (flat_map padded_line front),
      so_far,
    ))
