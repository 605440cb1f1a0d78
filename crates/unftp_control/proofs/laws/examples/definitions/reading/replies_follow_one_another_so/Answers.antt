use Rattle.std.proofs.Common.{codes, refl}
use Rattle.unftp_control_defs.proofs.ReplyLemmas.{FrontReply-front_of}
use Rattle.unftp_control.proofs.laws.examples.definitions.reading.replies_follow_one_another_so.Goals as goal

pub returns-clause-first : goal.returns-clause-first
returns-clause-first c = record { used = 7; front = FrontReply-front_of refl; after_is = refl }

pub returns-clause-one : goal.returns-clause-one
returns-clause-one c =
    (codes "22", record { used = 7; front = FrontReply-front_of refl; after_is = refl }, refl)
