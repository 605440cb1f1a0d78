use Rattle.std.proofs.Common.{[]}
use Rattle.unftp_control.proofs.ReplyStepLemmas.{steps-replies, AreReplies-unique, AreReplies-all}
use Rattle.unftp_control.proofs.laws.replies.any_cutting_of_replies.Goals as goal

pub returns : goal.returns
returns c = record {
  replies = steps-replies [];
  only = λ input replies others _ _. AreReplies-unique input replies others;
  all = AreReplies-all;
}
