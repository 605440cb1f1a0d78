use Rattle.std.proofs.Common.{List, length}
use Rattle.unftp_control_defs.specs.TakingSteps.{AreReplies}
use Rattle.unftp_control_log.specs.Exchanges.{Read}
use Rattle.unftp_control_c.proofs.exchange.fault_of.Given as goal

abbrev pub invariant-loop-rest : goal.invariant-loop-rest
invariant-loop-rest l = (replies : List Read) × AreReplies l.fn.bytes replies l.rest

abbrev pub decreases-loop-rest : goal.decreases-loop-rest
decreases-loop-rest l = length l.rest
