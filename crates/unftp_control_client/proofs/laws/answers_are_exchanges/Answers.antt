use Rattle.std.proofs.Common.{refl}
use Rattle.unftp_control_client.specs.Dialogue.{new_dialogue}
use Rattle.unftp_control_client.proofs.ForwardingLemmas.{each_complete, given-exchanges}
use Rattle.unftp_control_client.proofs.laws.answers_are_exchanges.Goals as goal

pub returns : goal.returns
returns c = record {
  exchanges = λ steps dialogue are. given-exchanges 0 steps new_dialogue dialogue refl are;
  complete = λ steps dialogue are greeted none_owed.
      each_complete new_dialogue dialogue steps refl refl are greeted none_owed;
}
