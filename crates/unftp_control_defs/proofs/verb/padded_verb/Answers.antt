use Rattle.std.proofs.Common.{sym}
use Rattle.unftp_control_defs.proofs.WordLemmas.{found_upper}
use Rattle.unftp_control_defs.proofs.verb.padded_verb.Goals as goal

pub returns-in-Some : goal.returns-in-Some
returns-in-Some c = λ word e. sym (found_upper word c.args.padded c.in-Some.verb e
    (sym c.in-Some.ensures))
