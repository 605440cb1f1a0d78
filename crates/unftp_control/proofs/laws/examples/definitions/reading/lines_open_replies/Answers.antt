use Rattle.std.proofs.Common.{[], ◌∷◌, codes, refl}
use Rattle.unftp_control_defs.proofs.ReplyLemmas.{FrontReply-front_of}
use Rattle.unftp_control.proofs.ReadExampleLemmas.{opens_none}
use Rattle.unftp_control.proofs.laws.examples.definitions.reading.lines_open_replies.Goals as goal

pub returns : goal.returns
returns c = record {
  code_only = ([], (211, [] ∷ [], 5, FrontReply-front_of refl));
  dash = (codes "211 \r\n", (211, codes "x" ∷ [] ∷ [], 13, FrontReply-front_of refl));
  letter = opens_none (codes "211x") (λ following. refl);
  four_digits = opens_none (codes "2111 x") (λ following. refl);
  two_digits = opens_none (codes "21") (λ following. refl);
}
