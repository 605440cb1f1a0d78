-- Calls of a client in C are steps of its dialogue.
use Rattle.std.proofs.Common.{◌≡◌, ◌&&◌, ◌==◌, Bool, true, false, List, [], ◌∷◌, ◌++◌, refl, ap, subst, eqb-true}
use Rattle.unftp_control_client.specs.Dialogue.{new_dialogue, commands_owed}
use Rattle.unftp_control_client.specs.Steps.{AreDialogueSteps, ClientStep}
use Rattle.unftp_control_client.specs.declared.dialogue.Dialogue.{Dialogue}
use Rattle.unftp_control_client.specs.declared.dialogue.To.{To}
use Rattle.unftp_control_client.specs.declared.dialogue.To.TheVariants.{Greeting, Command, Nothing}
use Rattle.unftp_control_client.proofs.AgreementLemmas.{ends_in_agreement}
use Rattle.unftp_control_client.proofs.ClientStepLemmas.{dialogue-exchanges}
use Rattle.unftp_control_c.specs.Clients.{dialogue_of, place_in, to_number}
use Rattle.unftp_control_c.proofs.laws.client_calls_are_a_dialogue.Goals as goal

-- they say it
to_said : (to other : To) → to_number to ≡ to_number other → place_in to ≡ place_in other
    → to ≡ other
to_said Greeting Greeting number place = refl
to_said Greeting (Command at) number place = absurd (cc)
to_said Greeting Nothing number place = absurd (cc)
to_said (Command at) Greeting number place = absurd (cc)
to_said (Command at) (Command other) number place = ap Command place
to_said (Command at) Nothing number place = absurd (cc)
to_said Nothing Greeting number place = absurd (cc)
to_said Nothing (Command at) number place = absurd (cc)
to_said Nothing Nothing number place = refl

steps-append : (first later : List ClientStep) (before middle after : Dialogue)
    → AreDialogueSteps before first middle → AreDialogueSteps middle later after
    → AreDialogueSteps before (first ++ later) after
steps-append [] later before middle after are more =
    subst (λ d. AreDialogueSteps d later after) are more
steps-append (step ∷ first) later before middle after (next, is, are) more =
    (next, is, steps-append first later next middle after are more)

record All (a b c : Bool) : Type 0 where
  first : a ≡ true
  second : b ≡ true
  third : c ≡ true

all_three : (a b c : Bool) → (a && (b && c)) ≡ true → All a b c
all_three true true true e = record { first = refl; second = refl; third = refl }
all_three true true false e = absurd (cc)
all_three true false c e = absurd (cc)
all_three false b c e = absurd (cc)

pub returns : goal.returns
returns c = record {
  line = λ before after line is. (dialogue_of after, is, refl);
  reply = λ before after taken number place is.
      (dialogue_of after, (to_said taken.to _ number place, is), refl);
  in_turn = λ first later before middle after are more. steps-append first later
      (dialogue_of before) (dialogue_of middle) (dialogue_of after) are more;
  exchanges = λ steps after are. dialogue-exchanges steps new_dialogue (dialogue_of after) are;
  tls = λ steps after pending are may.
      let d = dialogue_of after in
      let all = all_three d.agreed (commands_owed d == 0) (pending == 0) may in (
        ends_in_agreement steps new_dialogue d refl refl refl are all.first
            (eqb-true (commands_owed d) 0 all.second),
        eqb-true pending 0 all.third,
      );
}
