use Rattle.std.proofs.Common.{drop, take, length, length-drop, sym, ap, ◌≡◌, ◌<◌, ◌∙◌, arith, length-take, take-append-drop}
use Rattle.unftp_control_read.proofs.BufferLemmas.{read_part}
use Rattle.unftp_control_read.proofs.receiving.read_after.Goals as goal

pub returns-in-Ok-clause-appends : goal.returns-in-Ok-clause-appends
returns-in-Ok-clause-appends g c =
    let grown = c.args.buf.now in
    let len = c.args.len in
    let front = c.split_at_mut-room.ensures.front ∙ ap (take len) c.as_mut_slice.ensures.value in
    let long : length c.read.new.buf ≡ length (drop len grown.items) = omega (
      arith,
      c.read.auto.buf,
      c.split_at_mut-room.ensures.back_len,
      ap length c.as_mut_slice.ensures.value,
      length-drop len grown.items,
    ) in
    let room : length c.read.new.buf ≡ 4096 =
    omega (arith, long, length-drop len grown.items, c.requires, grown.ok.0) in
    let some : 0 < length c.read.new.buf = omega (arith, room) in (
      take c.in-Ok.n c.read.new.buf,
      c.truncate.ensures.items ∙ read_part (take len grown.items) (drop len grown.items)
          c.read.new.buf _ c.in-Ok.n (sym (take-append-drop len grown.items))
          (omega (arith, length-take len grown.items, c.requires, grown.ok.0)) grown.ok.0 front long,
      sym c.in-Ok.ensures.bound.1,
      omega (arith, c.in-Ok.ensures.bound, room),
      c.in-Ok.ensures.reads.0,
      c.in-Ok.ensures.reads.2,
      c.in-Ok.ensures.reads.3,
      λ none. c.in-Ok.ensures.reads.1 none some,
    )
