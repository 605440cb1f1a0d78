use Rattle.std.proofs.Common.{refl}
use Rattle.unftp_control_client.specs.Dialogue.{new_dialogue}
use Rattle.unftp_control_client.specs.Exchange.{new_client}
use Rattle.unftp_control_client.proofs.AgreementLemmas.{ends_in_agreement}
use Rattle.unftp_control_client.proofs.ClientStepLemmas.{steps-dialogue}
use Rattle.unftp_control_client.proofs.laws.tls_begins_after_234.Goals as goal

pub returns : goal.returns
returns c limit steps client are agreed none_owed =
    ends_in_agreement steps new_dialogue client.dialogue refl refl refl
    (steps-dialogue steps (new_client limit) client are) agreed none_owed
