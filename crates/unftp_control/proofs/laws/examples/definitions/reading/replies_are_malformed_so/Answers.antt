use Rattle.std.proofs.Common.{[], ◌∷◌, refl}
use Rattle.unftp_control_defs.proofs.ReplyLemmas.{FrontReply-front_of, front_is_formed, IsMalformed-front_of, IsPartial-front_of}
use Rattle.unftp_control.proofs.laws.examples.definitions.reading.replies_are_malformed_so.Goals as goal

pub returns : goal.returns
returns c = record {
  two_digits = IsMalformed-front_of _ refl;
  four_digits = IsMalformed-front_of _ refl;
  no_line_end = (IsPartial-front_of _ refl).1;
  code_only = front_is_formed _ (211, [] ∷ [], 5, FrontReply-front_of refl);
  no_last_line = (IsPartial-front_of _ refl).1;
}
