use Rattle.std.proofs.Common.{length}
use Rattle.unftp_control_message.proofs.WrittenValueLemmas.{IsBegun}
use Rattle.unftp_control_message.proofs.sent.unescape_to.Given as goal

abbrev pub invariant-units : goal.invariant-units
invariant-units l = IsBegun l.fn.sent l.fn.area l.area l.rest l.at

abbrev pub decreases-units : goal.decreases-units
decreases-units l = length l.rest
