use Rattle.std.proofs.Common.{rules}
use Rattle.unftp_control_log.proofs.ShownTextLemmas.{shown_plain}
use Rattle.unftp_control_log.proofs.text.append_shown.Goals as goal

pub returns-then-are_plain-clause-ok : goal.returns-then-are_plain-clause-ok
returns-then-are_plain-clause-ok c =
    rw (shown_plain c.args.text.now (c.are_plain.ensures.0 c.if-are_plain.true)) (search rules)

pub returns-then-are_plain-clause-memory : goal.returns-then-are_plain-clause-memory
returns-then-are_plain-clause-memory c =
    rw (shown_plain c.args.text.now (c.are_plain.ensures.0 c.if-are_plain.true)) (search rules)
