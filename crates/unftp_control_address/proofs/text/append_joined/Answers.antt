use Rattle.std.proofs.Common.{arith}
use Rattle.std.proofs.lemmas.Grind.{common_steps}
use Rattle.unftp_control_address.proofs.TextLemmas.{joined_whole}
use Rattle.unftp_control_address.proofs.text.append_joined.Goals as goal

pub returns-clause-ok : goal.returns-clause-ok
returns-clause-ok c =
    rw (joined_whole c.args.separator c.args.numbers.now c.in-len1-up.len_at_least)
    (grind (arith, common_steps))

pub returns-clause-memory : goal.returns-clause-memory
returns-clause-memory c =
    rw (joined_whole c.args.separator c.args.numbers.now c.in-len1-up.len_at_least)
    (grind (arith, common_steps))
