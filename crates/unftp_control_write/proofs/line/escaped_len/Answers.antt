use Rattle.std.proofs.Common.{arith}
use Rattle.unftp_control_write.proofs.RoomLemmas.{length-escaped}
use Rattle.unftp_control_write.proofs.line.escaped_len.Goals as goal

pub returns : goal.returns
returns c = omega (arith, length-escaped c.args.text.now)
