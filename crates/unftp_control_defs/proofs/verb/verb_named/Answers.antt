use Rattle.std.proofs.Common.{arith}
use Rattle.std.proofs.lemmas.Bool.Decides.{nat_tests}
use Rattle.unftp_control_defs.proofs.WordLemmas.{four_bytes}
use Rattle.unftp_control_defs.proofs.verb.verb_named.Goals as goal

pub returns-in-len4 : goal.returns-in-len4
returns-in-len4 c = c.padded_verb-in-len4.ensures c.args.word.now
    (four_bytes c.args.word.now c.in-len4.len_at_least c.in-len4.len_below
    (grind (arith, nat_tests, c.if-d-ne0.true)))
