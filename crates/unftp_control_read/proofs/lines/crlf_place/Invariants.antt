use Rattle.std.proofs.Common.{◌≡◌, ◌+◌, ◌≤◌, ◌-◌, length}
use Rattle.unftp_control_read.specs.Search.{LacksCrlfUpTo}
use Rattle.unftp_control_read.proofs.lines.crlf_place.Given as goal

abbrev pub invariant-loop-at : goal.invariant-loop-at
invariant-loop-at l = record {
  within : l.from ≤ length l.bytes;
  lacks : LacksCrlfUpTo l.fn.searched l.bytes → LacksCrlfUpTo l.from l.bytes;
  count : l.scanned + l.fn.searched ≡ l.fn.scanned + l.from;
}

abbrev pub decreases-loop-at : goal.decreases-loop-at
decreases-loop-at l = length l.bytes - l.from
