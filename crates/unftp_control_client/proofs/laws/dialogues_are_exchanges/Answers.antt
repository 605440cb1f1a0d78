use Rattle.std.proofs.Common.{refl}
use Rattle.unftp_control_client.specs.Dialogue.{new_dialogue}
use Rattle.unftp_control_client.proofs.AgreementLemmas.{ends_in_agreement}
use Rattle.unftp_control_client.proofs.ClientStepLemmas.{dialogue-exchanges, none_owed, sent_before}
use Rattle.unftp_control_client.proofs.laws.dialogues_are_exchanges.Goals as goal

pub returns : goal.returns
returns c = record {
  exchanges = λ steps dialogue are. dialogue-exchanges steps new_dialogue dialogue are;
  sent_before = λ before later place reply dialogue are.
      sent_before new_dialogue dialogue before later reply refl refl place are;
  unasked = λ before later reply dialogue are.
      none_owed new_dialogue dialogue before later reply refl refl are;
  agreed = λ steps dialogue are agreed none_owed.
      ends_in_agreement steps new_dialogue dialogue refl refl refl are agreed none_owed;
}
