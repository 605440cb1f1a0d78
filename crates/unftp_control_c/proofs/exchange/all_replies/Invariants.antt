use Rattle.std.proofs.Common.{length, map}
use Rattle.unftp_control_defs.specs.TakingSteps.{AreReplies}
use Rattle.unftp_control_read.specs.ReplyDecoding.{content}
use Rattle.unftp_control_c.proofs.exchange.all_replies.Given as goal

abbrev pub invariant-loop-rest : goal.invariant-loop-rest
invariant-loop-rest l = AreReplies l.fn.bytes (map content l.replies.items) l.rest

abbrev pub decreases-loop-rest : goal.decreases-loop-rest
decreases-loop-rest l = length l.rest
