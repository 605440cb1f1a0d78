use Rattle.unftp_control_defs.proofs.ReplyLemmas.{FrontReply-append, IsMalformed-append}
use Rattle.unftp_control.proofs.laws.replies.replies_stay.Goals as goal

pub returns : goal.returns
returns c = record { front = FrontReply-append; malformed = IsMalformed-append }
