use Rattle.unftp_control_address.proofs.ExtendedLawLemmas.{one_address}
use Rattle.unftp_control_address.proofs.laws.one_extended_address.Goals as goal

pub returns : goal.returns
returns c = one_address
