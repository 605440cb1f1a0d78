use Rattle.unftp_control_read.proofs.ReceiveLemmas.{reply_known}
use Rattle.unftp_control_read.proofs.receiving.known_input_is_received.Goals as goal

pub returns-clause-reply : goal.returns-clause-reply
returns-clause-reply c = λ before after input input_after reply h. reply_known h
