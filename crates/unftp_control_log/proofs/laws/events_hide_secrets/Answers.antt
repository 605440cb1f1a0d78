use Rattle.unftp_control_log.proofs.HiddenLemmas.{parameters_hidden}
use Rattle.unftp_control_log.proofs.laws.events_hide_secrets.Goals as goal

pub returns-clause-parameters : goal.returns-clause-parameters
returns-clause-parameters c = parameters_hidden
