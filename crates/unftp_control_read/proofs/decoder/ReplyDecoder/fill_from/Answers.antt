use Rattle.std.proofs.Common.{arith, ap, length, length-append, replicate, ◌∙◌}
use Rattle.std.specs.Prelude.{max}
use Rattle.unftp_control_read.proofs.BufferLemmas.{before_room}
use Rattle.unftp_control_read.proofs.DecoderLemmas.{decoder_read, pending_read}
use Rattle.unftp_control_read.proofs.decoder.ReplyDecoder.fill_from.Goals as goal

pub invariant_of-self-2 : goal.invariant_of-self-2
invariant_of-self-2 g c =
    let old = c.self.inside.buffer.bytes in
    let same = before_room old.items (replicate 4096 0) c.in_ok-add_room.ensures.ok
    (c.len-len.ensures ∙ old.ok.0) in
    decoder_read c.self.invariant _ _ _ _ c.read_after.result
    (omega (
      arith,
      c.raise_to.ensures,
      c.len.ensures,
      c.add_room.new.buf.ok,
      c.read_after.ensures.capacity,
      c.in_ok-add_room.ensures.capacity,
      c.self.invariant.room,
    ))
    (rw same at c.read_after.ensures.appends)

pub returns : goal.returns
returns g c =
    let d = c.self.inside in
    let old = d.buffer.bytes in
    let same = before_room old.items (replicate 4096 0) c.in_ok-add_room.ensures.ok
    (c.len-len.ensures ∙ old.ok.0) in
    rw (← c.self.view_is) (pending_read d.limit old.items c.read_after.new.buf.items d.buffer.start
    d.held c.raise_to.new.self _ c.self.invariant.start_within
    (c.raise_to.ensures ∙ ap (max d.held) (omega (
      arith,
      c.len.ensures,
      c.add_room.new.buf.ok.0,
      ap length c.in_ok-add_room.ensures.ok,
      length-append old.items (replicate 4096 0),
    )))
    _ _ c.read_after.result c.read_after.ensures.read
    (rw same at c.read_after.ensures.appends))
