use Rattle.std.proofs.Common.{◌++◌, ap, ◌∙◌}
use Rattle.unftp_control_defs.specs.FtpReply.{encoded}
use Rattle.example_callers.proofs.whole_line.answer_line.Goals as goal

pub returns-clause-line : goal.returns-clause-line
returns-clause-line c = λ _. record {
  event = c.in-Some.event;
  takes = rw c.in-Some.is at c.in_ok-event.ensures.takes_next;
  text = c.trim_ascii_end.result.now;
  is_text = rw (← (rw c.in-Some.is at c.in_ok-event.ensures.line), ← c.line.ensures)
      c.trim_ascii_end.ensures.value;
  asked = c.asked_by-asked.result;
  asks = c.asked_by-asked.ensures;
  modes_are = c.agree-code.ensures.modes;
  appended = c.in_ok-reply.ensures.ok ∙ ap (λ reply. c.args.out.now.items ++ encoded reply)
      c.agree-code.ensures.reply;
}
