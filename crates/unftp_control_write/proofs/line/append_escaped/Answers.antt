use Rattle.std.proofs.Common.{take, length, length-append, ap, arith, ◌∙◌}
use Rattle.unftp_control_defs.specs.Values.{escaped}
use Rattle.unftp_control_defs.proofs.AppendLemmas.{kept_start, on_err}
use Rattle.unftp_control_write.proofs.RoomLemmas.{escaped_so_far}
use Rattle.unftp_control_write.proofs.line.append_escaped.Goals as goal

pub returns-in_err-append_escaped_byte-clause-kept : goal.returns-in_err-append_escaped_byte-clause-kept
returns-in_err-append_escaped_byte-clause-kept c =
    kept_start (escaped (take c.loop-byte.byte-index c.args.text.now))
    c.append_escaped_byte.new.buf.items c.args.buf.now.ok.0
    (c.loop-byte.buf.ok.0 ∙ ap length c.loop-byte.invariant.items)
    (c.in_err-append_escaped_byte.ensures.kept ∙ c.loop-byte.invariant.items)

pub returns-in_err-append_escaped_byte-clause-memory :
    goal.returns-in_err-append_escaped_byte-clause-memory
returns-in_err-append_escaped_byte-clause-memory c =
    let lacks = c.in_err-append_escaped_byte.ensures.memory in
    on_err c.from_residual.result (omega (
      arith,
      lacks,
      c.loop-byte.buf.ok.0,
      c.args.buf.now.ok.0,
      c.loop-byte.invariant.capacity,
      ap length c.loop-byte.invariant.items,
      length-append c.args.buf.now.items
          (escaped (take c.loop-byte.byte-index c.args.text.now)),
      escaped_so_far c.args.text.now c.loop-byte.byte-index 0 c.loop-byte-test.true,
    ))
