use Rattle.example_callers.proofs.TransferLawLemmas.{stores}
use Rattle.example_callers.proofs.transfers.laws.all_is_stored.Goals as goal

pub returns : goal.returns
returns c = stores
