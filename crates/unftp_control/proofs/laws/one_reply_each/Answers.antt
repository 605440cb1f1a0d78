use Rattle.unftp_control.proofs.FirstEndLemmas.{length-one_reply}
use Rattle.unftp_control.proofs.laws.one_reply_each.Goals as goal

pub returns : goal.returns
returns g c = length-one_reply g.H.Handler.law
