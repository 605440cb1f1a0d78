use Rattle.std.proofs.Common.{arith}
use Rattle.unftp_control_read.proofs.DecoderLemmas.{decoder_more}
use Rattle.unftp_control_read.proofs.decoder.ReplyDecoder.push.Goals as goal

pub invariant_of-self-2 : goal.invariant_of-self-2
invariant_of-self-2 c =
    decoder_more c.self.invariant _ _ _ c.in_ok-push.ensures.within c.in_ok-push.ensures.ok
    (omega (arith, c.in_ok-push.ensures.room, c.in_ok-push.ensures.capacity, c.self.invariant.room))
