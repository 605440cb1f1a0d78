use Rattle.std.proofs.Common.{[], ◌∷◌, codes, refl}
use Rattle.unftp_control_defs.proofs.ReplyLemmas.{FrontReply-front_of, IsMalformed-front_of, IsPartial-front_of}
use Rattle.unftp_control_c.proofs.examples.replies_have_lines.Goals as goal

pub returns-clause-code_only : goal.returns-clause-code_only
returns-clause-code_only c = (200, [] ∷ [], 5, FrontReply-front_of refl, refl)

pub returns-clause-more : goal.returns-clause-more
returns-clause-more c = IsPartial-front_of (codes "200 a") refl

pub returns-clause-malformed : goal.returns-clause-malformed
returns-clause-malformed c = IsMalformed-front_of (codes "a\r\n") refl
