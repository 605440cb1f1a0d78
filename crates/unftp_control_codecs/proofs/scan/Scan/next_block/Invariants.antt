use Rattle.std.proofs.Common.{◌≡◌, ◌≤◌, ◌+◌, length}
use Rattle.unftp_control_codecs.specs.LineFeed.{line_feed_from}
use Rattle.unftp_control_codecs.proofs.scan.Scan.next_block.Given as goal

abbrev pub invariant-loop-left : goal.invariant-loop-left
invariant-loop-left l = record {
  bytes : l.self.bytes.now ≡ l.fn.self.bytes.now;
  same_reference : l.self.tests.ghost_name ≡ l.fn.self.tests.ghost_name;
  reached : (l.from ≤ l.at) × (l.at + l.left ≡ length l.fn.self.bytes.now);
  tests : l.self.tests.now + l.from ≡ l.fn.self.tests.now + l.at;
  before : line_feed_from l.fn.self.bytes.now l.from
      ≡ line_feed_from l.fn.self.bytes.now l.at;
}

abbrev pub decreases-loop-left : goal.decreases-loop-left
decreases-loop-left l = l.left
