use Rattle.std.proofs.Common.{[], ◌∷◌, codes, refl, arith}
use Rattle.unftp_control_defs.proofs.ReplyLemmas.{FrontReply-front_of, IsMalformed-front_of, IsPartial-front_of}
use Rattle.unftp_control.proofs.laws.examples.definitions.reading.replies_are_too_long_so.Goals as goal

pub returns : goal.returns
returns c = record {
  text = (omega arith, IsPartial-front_of _ refl);
  text_at_the_limit = λ long. long.1.0 (211, codes "a" ∷ [], 7, FrontReply-front_of refl);
  next_reply_past_the_limit = λ long. long.1.0 (211, codes "a" ∷ [], 7, FrontReply-front_of refl);
  part_at_the_limit = (omega arith, IsPartial-front_of _ refl);
  part_below_the_limit = λ long. omega (arith, long.0);
  several = (omega arith, IsPartial-front_of _ refl);
  several_at_the_limit =
      λ long. long.1.0 (211, codes "a" ∷ codes "b" ∷ [], 14, FrontReply-front_of refl);
  malformed = (omega arith, IsPartial-front_of _ refl);
  malformed_at_the_limit = λ long. long.1.1 (IsMalformed-front_of _ refl);
  no_limit = λ long. long;
}
