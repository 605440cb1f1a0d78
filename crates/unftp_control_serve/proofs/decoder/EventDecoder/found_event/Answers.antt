use Rattle.std.proofs.Common.{◌≡◌, IfOk, drop, take, ap, subst, ◌∙◌}
use Rattle.std.proofs.lemmas.Result.{on_err_weaker}
use Rattle.unftp_control_defs.specs.Bytes.{Bytes}
use Rattle.unftp_control_serve.specs.EventMeaning.{event_meant}
use Rattle.unftp_control_serve.proofs.DecoderLemmas.{line_event, line_memory, long_event, seen, seen-is}
use Rattle.unftp_control_serve.proofs.decoder.EventDecoder.found_event.Goals as goal

-- the line that was found
line_is : (c : goal.After-event_of) → c.found_line.result.now
    ≡ take c.in-Line.field-0 (drop c.self.inside.buffer.start c.self.inside.buffer.bytes.items)
line_is c =
    let d = c.self.inside in
    let kept : Bytes = drop d.buffer.start d.buffer.bytes.items in
    (rw (← c.self.view_is) at c.found_line.ensures)
    ∙ seen-is d.finder d.skipped kept d.first c.self.invariant.first_is
    ∙ ap (λ f. seen f kept) c.in-Line.is

pub returns-in-Line-clause-ok : goal.returns-in-Line-clause-ok
returns-in-Line-clause-ok c =
    let d = c.self.inside in
    let kept : Bytes = drop d.buffer.start d.buffer.bytes.items in
    rw (← c.self.view_is)
    (subst (λ meant. IfOk c.event_of.result (λ event. event_meant event ≡ meant))
    (line_event d.finder d.skipped kept c.in-Line.field-0 c.found_line.result.now
    (rw c.in-Line.is at c.self.invariant.first_is) (line_is c)) c.event_of.ensures.ok)

pub returns-in-Line-clause-err : goal.returns-in-Line-clause-err
returns-in-Line-clause-err c =
    let d = c.self.inside in
    let kept : Bytes = drop d.buffer.start d.buffer.bytes.items in
    rw (← c.self.view_is) (on_err_weaker c.event_of.result
    (line_memory d.finder d.skipped kept c.in-Line.field-0 c.found_line.result.now
    (rw c.in-Line.is at c.self.invariant.first_is) (line_is c)) c.event_of.ensures.err)

pub returns-in-TooLong-clause-ok : goal.returns-in-TooLong-clause-ok
returns-in-TooLong-clause-ok c =
    let d = c.self.inside in
    rw (← c.self.view_is) (c.too_long.ensures ∙ long_event d.finder d.skipped
    (drop d.buffer.start d.buffer.bytes.items) (rw c.in-TooLong.is at c.self.invariant.first_is))
