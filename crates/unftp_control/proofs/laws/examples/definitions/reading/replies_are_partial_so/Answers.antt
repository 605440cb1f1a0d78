use Rattle.std.proofs.Common.{[], ◌∷◌, codes, refl}
use Rattle.unftp_control_defs.proofs.ReplyLemmas.{FrontReply-front_of, IsMalformed-front_of, IsPartial-front_of}
use Rattle.unftp_control.proofs.laws.examples.definitions.reading.replies_are_partial_so.Goals as goal

pub returns : goal.returns
returns c = record {
  no_line_end = IsPartial-front_of _ refl;
  letters = IsPartial-front_of _ refl;
  no_last_line = IsPartial-front_of _ refl;
  text = λ partial. partial.0 (211, codes "a" ∷ [], 7, FrontReply-front_of refl);
  last_line = λ partial. partial.0 (211, codes "a" ∷ codes "b" ∷ [], 14, FrontReply-front_of refl);
  no_code = λ partial. partial.1 (IsMalformed-front_of _ refl);
}
