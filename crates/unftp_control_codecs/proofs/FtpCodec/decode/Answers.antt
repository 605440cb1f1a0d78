use Rattle.std.proofs.Common.{arith}
use Rattle.std.proofs.lemmas.Grind.{common_steps}
use Rattle.unftp_control_codecs.proofs.FtpCodec.decode.Goals as goal

pub returns-clause-decodes : goal.returns-clause-decodes
returns-clause-decodes c =
    rw c.remove_front.ensures.items (rw c.as_slice.ensures.value at c.decode_slice-taken.ensures.decodes)

pub returns-clause-counted : goal.returns-clause-counted
returns-clause-counted c = grind (arith, common_steps) steps 600000
