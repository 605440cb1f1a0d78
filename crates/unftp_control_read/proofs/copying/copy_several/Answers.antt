use Rattle.unftp_control_read.proofs.CopyLemmas.{contents_more, copied_last, copied_more, copied_none}
use Rattle.unftp_control_read.specs.Reading.{contents}
use Rattle.unftp_control_read.proofs.copying.copy_several.Goals as goal

pub returns-in-Some-last_text : goal.returns-in-Some-last_text
returns-in-Some-last_text c =
    copied_last c.args.digits.now c.args.first.now c.args.bytes.now c.loop-line.rest.now
    (contents c.loop-line.lines) c.loop-line.invariant c.in-Some.line.now c.in-Some.after.now
    c.in-Some.ensures.cut c.in-Some.ensures.is_line c.in-Some-last_text.last.now
    c.in-Some-last_text.ensures.found
    (contents_more c.loop-line.lines c.push.new.self c.in_ok-from_slice.field-0
    c.in_ok-push.ensures.items c.in_ok-from_slice.ensures.items)

pub loop-line-preserved : goal.loop-line-preserved
loop-line-preserved c =
    copied_more c.args.digits.now c.args.first.now c.args.bytes.now c.loop-line.rest.now
    (contents c.loop-line.lines) c.loop-line.invariant c.in-Some.line.now c.in-Some.after.now
    c.in-Some.ensures.cut c.in-Some.ensures.is_line c.in_default-last_text.ensures.none
    (contents_more c.loop-line.lines c.push-in-Some.new.self c.in_ok-from_slice-2.field-0
    c.in_ok-push-2.ensures.items c.in_ok-from_slice-2.ensures.items)

pub returns : goal.returns
returns c opened code lines end e = absurd
    (copied_none c.args.digits.now c.args.first.now c.args.bytes.now c.loop-line.rest.now
    (contents c.loop-line.lines) c.loop-line.invariant
    c.in_default.ensures.none opened code lines end e)
