use Rattle.std.proofs.Common.{refl, ap}
use Rattle.unftp_control_client.specs.declared.Client.{Client}
use Rattle.unftp_control_client.proofs.laws.calls_are_steps.Goals as goal

pub returns : goal.returns
returns c = record {
  send = λ before after command is. (
    after,
    (ap (λ (c : Client). c.dialogue) is, ap (λ (c : Client). c.replies.bytes) is),
    (refl, refl),
  );
  receive = λ before after piece is. (
    after,
    (ap (λ (c : Client). c.dialogue) is, ap (λ (c : Client). c.replies.bytes) is),
    (refl, refl),
  );
  next_reply = λ before after taken takes is. (after, (is, takes.takes), (refl, refl));
  none = λ before after takes is. (is, takes.same);
  failed = λ before after error takes is. (is, takes.1);
}
