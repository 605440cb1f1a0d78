use Rattle.example_callers.proofs.TransferLawLemmas.{comes_back}
use Rattle.example_callers.proofs.transfers.laws.files_come_back.Goals as goal

pub returns : goal.returns
returns c = comes_back
