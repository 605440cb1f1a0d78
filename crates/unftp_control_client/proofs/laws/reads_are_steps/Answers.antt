use Rattle.std.specs.List.{concat}
use Rattle.std.proofs.Common.{refl}
use Rattle.unftp_control_read.specs.ReplyDecoding.{appended}
use Rattle.unftp_control_client.proofs.ClientStepLemmas.{steps-append}
use Rattle.unftp_control_client.proofs.laws.reads_are_steps.Goals as goal

pub returns : goal.returns
returns c = record {
  read_reply = λ before after taken input left receives is. (
    record before { replies = appended before.replies (concat receives.pieces) },
    (refl, refl),
    (after, (is, receives.takes_next.takes), (refl, refl)),
  );
  read_none = λ before after input left receives is. (
    record before { replies = appended before.replies (concat receives.pieces) },
    (refl, refl),
    (is, receives.takes_next.0.same),
  );
  read_failed = λ before after error input left receives is. (
    record before { replies = appended before.replies (concat receives.pieces) },
    (refl, refl),
    (is, receives.takes_next.1),
  );
  in_turn = steps-append;
}
