use Rattle.std.proofs.Common.{refl, ap, ◌∙◌}
use Rattle.std.proofs.lemmas.Bool.{false≢true}
use Rattle.unftp_control_write.proofs.ForwardingLemmas.{Lacks-body, IsLine-body, text-before_end}
use Rattle.unftp_control_write.proofs.forwarding.without_end.Goals as goal

pub returns-then-not-lacks_line_feed : goal.returns-then-not-lacks_line_feed
returns-then-not-lacks_line_feed c = λ is_line.
    false≢true
    (c.if-not-lacks_line_feed.ensures.1
    (Lacks-body c.args.line.now c.in_ok-body.body c.in_ok-body.ensures.cases is_line))

pub returns : goal.returns
returns c =
    let lacks = c.if-not-lacks_line_feed.ensures.0 refl in (
      IsLine-body c.args.line.now c.in_ok-body.body c.in_ok-body.ensures.cases lacks,
      ap (λ text. text.now) c.unwrap_or.ensures ∙ text-before_end c.args.line.now c.in_ok-body.body
          c.in_ok-body.ensures.cases c.strip_suffix-2.result lacks c.strip_suffix-2.ensures.cases,
    )
