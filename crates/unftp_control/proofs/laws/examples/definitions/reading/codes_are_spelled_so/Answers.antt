use Rattle.std.proofs.Common.{refl, lit<}
use Rattle.unftp_control.proofs.laws.examples.definitions.reading.codes_are_spelled_so.Goals as goal

pub returns-clause-each_place : goal.returns-clause-each_place
returns-clause-each_place c = (4, 2, 1, lit< tt, lit< tt, lit< tt, refl, refl)
