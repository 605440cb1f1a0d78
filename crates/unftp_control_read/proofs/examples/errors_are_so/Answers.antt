use Rattle.std.proofs.Common.{◌∷◌, [], codes, refl}
use Rattle.unftp_control_defs.proofs.ReplyLemmas.{FrontReply-front_of, IsPartial-front_of}
use Rattle.unftp_control_read.proofs.examples.errors_are_so.Goals as goal

pub returns-clause-whole : goal.returns-clause-whole
returns-clause-whole c = (220, codes "a" ∷ [], 7, FrontReply-front_of refl)

pub returns-clause-part : goal.returns-clause-part
returns-clause-part c = (IsPartial-front_of _ refl).0
