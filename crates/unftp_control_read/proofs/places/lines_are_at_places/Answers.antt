use Rattle.unftp_control_read.proofs.PlaceLemmas.{lines_found}
use Rattle.unftp_control_read.proofs.places.lines_are_at_places.Goals as goal

pub returns : goal.returns
returns c bytes code lines places reply are = lines_found bytes reply places are
