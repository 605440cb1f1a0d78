use Rattle.unftp_control_read.proofs.FoundLemmas.{whole_found}
use Rattle.unftp_control_read.proofs.find_reply.Goals as goal

pub returns-clause-whole : goal.returns-clause-whole
returns-clause-whole c = whole_found c.args.bytes.now c.find_front.result
    (c.find_front.ensures.finds (c.new.ensures.searched c.args.bytes.now))
