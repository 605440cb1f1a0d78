use Rattle.unftp_control_log.proofs.HiddenLemmas.{logged_alike}
use Rattle.unftp_control_log.proofs.laws.secrets_stay_hidden.Goals as goal

pub returns : goal.returns
returns c = logged_alike
