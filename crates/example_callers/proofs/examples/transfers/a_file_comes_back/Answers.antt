use Rattle.std.proofs.Common.{◌≡◌}
use Rattle.example_callers.specs.declared.transfers.transfer.Ending.TheVariants.{Complete, Aborted}
use Rattle.example_callers.proofs.TransferOutcomeLemmas.{completed}
use Rattle.example_callers.proofs.examples.transfers.a_file_comes_back.Goals as goal

pub returns-clause-not_stored : goal.returns-clause-not_stored
returns-clause-not_stored c = λ is. let e : Aborted ≡ Complete = completed Aborted is in absurd (cc)
