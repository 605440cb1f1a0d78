use Rattle.unftp_control_message.proofs.ReplyLemmas.{reply-Decides}
use Rattle.unftp_control_message.proofs.reply.reply.same_replies.Goals as goal

pub returns : goal.returns
returns c = reply-Decides
