use Rattle.std.proofs.Common.{refl}
use Rattle.unftp_control_client.specs.Dialogue.{new_dialogue}
use Rattle.unftp_control_client.specs.Exchange.{new_client}
use Rattle.unftp_control_client.proofs.ClientStepLemmas.{none_owed, sent_before, steps-dialogue, steps-exchanges, steps-taken}
use Rattle.unftp_control_client.proofs.laws.replies_are_exchanges.Goals as goal

pub returns : goal.returns
returns c = record {
  exchanges = λ limit steps client are. steps-exchanges steps (new_client limit) client are;
  sent_before = λ limit before later place reply client are.
      sent_before new_dialogue client.dialogue before later reply refl refl place
      (steps-dialogue _ (new_client limit) client are);
  unasked = λ limit before later reply client are.
      none_owed new_dialogue client.dialogue before later reply refl refl
      (steps-dialogue _ (new_client limit) client are);
  taken = λ limit steps client are. steps-taken steps (new_client limit) client are;
}
