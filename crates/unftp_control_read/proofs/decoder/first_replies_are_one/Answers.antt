use Rattle.unftp_control_read.proofs.FirstReplyLemmas.{one_first}
use Rattle.unftp_control_read.proofs.decoder.first_replies_are_one.Goals as goal

pub returns : goal.returns
returns c limit bytes found other f g = one_first limit bytes found other f g
