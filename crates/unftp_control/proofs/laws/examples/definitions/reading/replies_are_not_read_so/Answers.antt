use Rattle.std.proofs.Common.{refl, arith}
use Rattle.unftp_control_defs.proofs.ReplyLemmas.{FrontReply-front_of, FrontReply-unique, IsPartial-front_of}
use Rattle.unftp_control.proofs.ReadExampleLemmas.{malformed_is_no_front}
use Rattle.unftp_control.proofs.laws.examples.definitions.reading.replies_are_not_read_so.Goals as goal

pub returns : goal.returns
returns c = record {
  other_code = λ front. let same = (FrontReply-unique front (FrontReply-front_of refl)).0 in
      omega (arith, same);
  line_end_left = λ front. let same = (FrontReply-unique front (FrontReply-front_of refl)).2 in
      omega (arith, same);
  line_end_in_the_text = λ front. let same =
      (FrontReply-unique front (FrontReply-front_of refl)).2 in omega (arith, same);
  past_the_last_line = λ front. let same =
      (FrontReply-unique front (FrontReply-front_of refl)).2 in omega (arith, same);
  no_last_line = (IsPartial-front_of _ refl).0;
  no_code = malformed_is_no_front _ refl;
}
