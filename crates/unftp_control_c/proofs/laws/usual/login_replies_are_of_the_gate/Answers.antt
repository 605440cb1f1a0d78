use Rattle.std.specs.Prelude.{nat_lt}
use Rattle.unftp_control_c.specs.NumberedReplies.{step_of}
use Rattle.unftp_control_c.proofs.NumberedReplyLemmas.{step_back, step_decided, step_short}
use Rattle.unftp_control_c.proofs.laws.usual.login_replies_are_of_the_gate.Goals as goal

pub returns : goal.returns
returns c = record {
  decided = step_decided;
  steps = step_back;
  room = λ step accepted. step_short (step_of step) (nat_lt 0 accepted);
}
