use Rattle.std.proofs.Common.{ap, ◌∙◌}
use Rattle.unftp_control_defs.specs.FtpReply.{CodeAndMsg}
use Rattle.login_demo.proofs.FactLemmas.{has_time, same_time}
use Rattle.login_demo.proofs.facts.modified_reply.Goals as goal

pub returns-in-Some-clause-ok : goal.returns-in-Some-clause-ok
returns-in-Some-clause-ok c =
    c.new_with_string.ensures
    ∙ ap (CodeAndMsg 213)
    (same_time (rw c.in-Some.is at c.in_ok-text.ensures)
    c.modified.ensures)

pub returns-in-None-clause-ok : goal.returns-in-None-clause-ok
returns-in-None-clause-ok c =
    absurd (has_time (rw c.in-None.is at c.in_ok-text.ensures) c.modified.ensures)
