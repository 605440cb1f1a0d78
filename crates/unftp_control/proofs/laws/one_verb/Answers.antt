use Rattle.unftp_control_defs.proofs.VerbLemmas.{Cut-verb_of, Cut-unique}
use Rattle.unftp_control.proofs.laws.one_verb.Goals as goal

pub returns : goal.returns
returns c = record { computed = Cut-verb_of; only = Cut-unique }
