use Rattle.unftp_control_read.proofs.FoundLemmas.{whole_read}
use Rattle.unftp_control_read.proofs.read_reply.Goals as goal

pub returns-clause-whole : goal.returns-clause-whole
returns-clause-whole c = whole_read c.args.bytes.now c.read_front.result
    c.read_front.ensures.front c.read_front.ensures.refusal
