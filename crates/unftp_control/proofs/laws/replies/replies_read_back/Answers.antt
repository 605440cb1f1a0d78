use Rattle.unftp_control_defs.proofs.EncodingLemmas.{FrontReply-encoded, ReadsBack-encoded}
use Rattle.unftp_control.proofs.laws.replies.replies_read_back.Goals as goal

pub returns : goal.returns
returns c = record {
  front = λ reply more sent _ _. FrontReply-encoded reply more sent;
  all = ReadsBack-encoded;
}
