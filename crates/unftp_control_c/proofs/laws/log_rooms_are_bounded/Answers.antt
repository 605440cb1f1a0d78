use Rattle.unftp_control_c.proofs.LogRoomLemmas.{log_room}
use Rattle.unftp_control_c.proofs.laws.log_rooms_are_bounded.Goals as goal

pub returns : goal.returns
returns c = log_room
