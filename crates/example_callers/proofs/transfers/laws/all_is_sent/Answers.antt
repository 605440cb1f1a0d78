use Rattle.example_callers.proofs.TransferLawLemmas.{retrieves}
use Rattle.example_callers.proofs.transfers.laws.all_is_sent.Goals as goal

pub returns : goal.returns
returns c = retrieves
