use Rattle.std.proofs.Common.{arith}
use Rattle.unftp_control_read.proofs.SearchLemmas.{nothing_searched}
use Rattle.unftp_control_c.specs.TakingReplies.{new_search}
use Rattle.unftp_control_c.proofs.NextReplyLemmas.{scanned_after}
use Rattle.unftp_control_c.proofs.laws.replies_are_scanned_once.Goals as goal

pub returns : goal.returns
returns c = λ limit steps after are. omega (
  arith,
  scanned_after steps (new_search limit) after (nothing_searched _) are,
)
