use Rattle.std.proofs.Common.{codes, refl}
use Rattle.unftp_control_defs.proofs.ReplyLemmas.{FrontReply-front_of}
use Rattle.unftp_control.proofs.laws.examples.definitions.reading.replies_are_taken_so.Goals as goal

pub returns-clause-two_pieces : goal.returns-clause-two_pieces
returns-clause-two_pieces c =
    (codes "22", record { used = 7; front = FrontReply-front_of refl; after_is = refl }, refl)
