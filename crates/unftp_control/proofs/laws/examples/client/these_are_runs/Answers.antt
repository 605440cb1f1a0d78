use Rattle.std.proofs.Common.{◌≡◌, List, [], ◌∷◌, None, Some, codes, refl}
use Rattle.unftp_control_defs.proofs.ReplyLemmas.{FrontReply-front_of}
use Rattle.unftp_control_client.specs.Dialogue.{new_dialogue}
use Rattle.unftp_control_client.specs.Exchange.{new_client}
use Rattle.unftp_control_client.specs.Steps.{ClientStep, Received, SentLine, Took}
use Rattle.unftp_control_client.specs.declared.dialogue.To.TheVariants.{Command, Greeting}
use Rattle.unftp_control_client.proofs.ClientStepLemmas.{steps-exchanges}
use Rattle.unftp_control.specs.ClientRuns.{client_with, dialogue, noop, reply_with, retr}
use Rattle.unftp_control.proofs.laws.examples.client.these_are_runs.Goals as goal

pub returns-clause-unasked : goal.returns-clause-unasked
returns-clause-unasked c = (
  client_with new_dialogue (codes "220\r\n421\r\n"),
  (refl, refl),
  (
    client_with (dialogue 0 (Some 0)) (codes "421\r\n"),
    ((refl, refl), record { used = 5; front = FrontReply-front_of refl; after_is = refl }),
    (
      client_with (dialogue 0 (Some 0)) [],
      ((refl, refl), record { used = 5; front = FrontReply-front_of refl; after_is = refl }),
      (refl, refl),
    ),
  ),
)

pub returns-clause-settled_by_150 : goal.returns-clause-settled_by_150
returns-clause-settled_by_150 c = λ client are.
    let steps : List ClientStep = SentLine retr ∷ SentLine noop ∷ Received
    (codes "220\r\n150\r\n226\r\n")
    ∷ Took (reply_with 220 Greeting) ∷ Took (reply_with 150 (Command 0))
    ∷ Took (reply_with 226 (Command 1)) ∷ [] in
    let exchanges = steps-exchanges steps (new_client None) client are in
    let to : Command 1 ≡ Command 0 = exchanges.1.1.0 in absurd (cc)
