use Rattle.unftp_control_defs.proofs.ReplyLemmas.{some_reading, front_is_formed}
use Rattle.unftp_control.proofs.laws.replies.one_reading.Goals as goal

pub returns : goal.returns
returns c = record {
  some = some_reading;
  front_is_whole = λ bytes front partial. partial.0 front;
  front_is_formed = front_is_formed;
  partial_is_formed = λ bytes partial. partial.1;
}
