use Rattle.std.proofs.Common.{[], ◌∷◌, refl}
use Rattle.unftp_control.proofs.laws.examples.definitions.inputs.pieces_are_recorded_so.Goals as goal

pub returns-clause-ended : goal.returns-clause-ended
returns-clause-ended c = record { none_left = tt; reads = 2 ∷ []; none_given = refl }
