use Rattle.std.proofs.Common.{Ok, Err, sym, ap, subst, ◌∙◌}
use Rattle.unftp_control_defs.specs.Lines.{IsLine}
use Rattle.unftp_control_defs.specs.Outcome.{outcome}
use Rattle.unftp_control_c.specs.ForwardedLines.{forwarded_text}
use Rattle.unftp_control_c.proofs.AreaLemmas.{filled_done}
use Rattle.unftp_control_c.proofs.ForwardedLineLemmas.{no_line, some_line, why_not}
use Rattle.unftp_control_c.proofs.forwarding.unftp_forward.Goals as goal

pub returns-in-Err-clause-writes : goal.returns-in-Err-clause-writes
returns-in-Err-clause-writes c = (
  Err c.in-Err.status,
  why_not c.args.line.now c.in-Err.status c.in-Err.ensures,
  λ i. record { result = c.number.ensures i; area = c.args.out.now; text_length = 0 },
)

pub returns-in-Err-clause-is_line : goal.returns-in-Err-clause-is_line
returns-in-Err-clause-is_line c = λ is e.
    some_line c.args.line.now c.in-Err.status c.in-Err.ensures is (sym c.number.ensures ∙ e)

pub returns-in-Err-clause-not_a_line : goal.returns-in-Err-clause-not_a_line
returns-in-Err-clause-not_a_line c = λ none.
    c.number.ensures ∙ no_line c.args.line.now c.in-Err.status c.in-Err.ensures none

pub returns-then-number-clause-writes : goal.returns-then-number-clause-writes
returns-then-number-clause-writes c = (
  Ok (forwarded_text c.in-Ok.forwarded),
  c.in-Ok.ensures.1.is,
  c.write_forwarded-number.ensures,
)

pub returns-else-number-clause-writes : goal.returns-else-number-clause-writes
returns-else-number-clause-writes c = (
  Ok (forwarded_text c.in-Ok.forwarded),
  c.in-Ok.ensures.1.is,
  c.write_forwarded-number.ensures,
)

pub returns-then-number-clause-one_line : goal.returns-then-number-clause-one_line
returns-then-number-clause-one_line c = λ done.
    let left = c.write_forwarded-number.ensures in
    rw (ap (λ filled. filled.text_length) left, ap (λ filled. filled.area) left)
    (subst IsLine (sym (filled_done (forwarded_text c.in-Ok.forwarded) c.args.out.now
    (sym (ap (λ filled. filled.result) left) ∙ done)))
    c.in-Ok.ensures.1.one_line)

pub returns-then-number-clause-read_back : goal.returns-then-number-clause-read_back
returns-then-number-clause-read_back c = λ done.
    let left = c.write_forwarded-number.ensures in
    rw (ap (λ filled. filled.text_length) left, ap (λ filled. filled.area) left)
    (ap outcome (filled_done (forwarded_text c.in-Ok.forwarded) c.args.out.now
    (sym (ap (λ filled. filled.result) left) ∙ done))
    ∙ c.in-Ok.ensures.1.read_back)
