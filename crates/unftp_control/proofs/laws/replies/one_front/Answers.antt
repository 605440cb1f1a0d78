use Rattle.unftp_control_defs.proofs.ReplyLemmas.{FrontReply-unique, front_within}
use Rattle.unftp_control.proofs.laws.replies.one_front.Goals as goal

pub returns : goal.returns
returns c = record { only = λ _ _ _ _ _ _ _. FrontReply-unique; within = front_within }
