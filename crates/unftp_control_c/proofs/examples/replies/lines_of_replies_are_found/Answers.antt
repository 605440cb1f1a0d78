use Rattle.std.proofs.Common.{arith}
use Rattle.unftp_control_c.specs.NextReply.{none, refused}
use Rattle.unftp_control_c.proofs.examples.replies.lines_of_replies_are_found.Goals as goal

pub returns-clause-end : goal.returns-clause-end
returns-clause-end c = none (omega arith) tt

pub returns-clause-past : goal.returns-clause-past
returns-clause-past c = refused (omega arith)
