use Rattle.unftp_control_address.proofs.ExtendedLawLemmas.{read_back}
use Rattle.unftp_control_address.proofs.laws.extended_addresses_read_back.Goals as goal

pub returns : goal.returns
returns c = read_back
