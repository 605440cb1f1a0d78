use Rattle.std.proofs.Common.{inl, sym, ◌∙◌}
use Rattle.unftp_control_codecs.specs.declared.FirstLine.TheVariants.{Incomplete}
use Rattle.unftp_control_c.specs.Next.{call_with}
use Rattle.unftp_control_c.proofs.NextLemmas.{complete_left, found_left, too_long_left}
use Rattle.unftp_control_c.proofs.next.take_first.Goals as goal

pub returns-in-Incomplete-clause-leaves : goal.returns-in-Incomplete-clause-leaves
returns-in-Incomplete-clause-leaves c =
    let call = call_with c.args.connection.now c.args.bytes.now c.args.area.now in
    inl (c.report.ensures call.bytes call.area
    ∙ rw (c.in-Incomplete.ensures.codec, c.requires.codec)
    (sym (found_left call c.requires.valid (Incomplete c.in-Incomplete.dropped)
    (rw c.requires.codec at c.in-Incomplete.ensures.found))))

pub returns-in-TooLong-clause-leaves : goal.returns-in-TooLong-clause-leaves
returns-in-TooLong-clause-leaves c =
    let call = call_with c.args.connection.now c.args.bytes.now c.args.area.now in
    inl (c.report-in-TooLong.ensures call.bytes call.area
    ∙ rw (c.in-TooLong.ensures.codec, c.requires.codec)
    (sym (too_long_left call c.requires.valid c.in-TooLong.length
    (rw c.requires.codec at c.in-TooLong.ensures.found))))

pub returns-in-Complete-clause-leaves : goal.returns-in-Complete-clause-leaves
returns-in-Complete-clause-leaves c =
    let call = call_with c.args.connection.now c.args.bytes.now c.args.area.now in
    complete_left call c.requires.valid c.in-Complete.length
    (rw c.requires.codec at c.in-Complete.ensures.found) _
    (rw c.split_at.ensures.front at c.take_line.ensures call.bytes)
