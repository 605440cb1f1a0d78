use Rattle.std.proofs.Common.{◌≡◌, ◌≤◌, ◌+◌, ◌-◌, length}
use Rattle.unftp_control_codecs.specs.LineFeed.{line_feed_from}
use Rattle.unftp_control_codecs.proofs.scan.Scan.find_among_few.Given as goal

abbrev pub invariant-loop-at : goal.invariant-loop-at
invariant-loop-at l = record {
  bytes : l.self.bytes.now ≡ l.initial.self.bytes.now;
  same_reference : l.self.tests.ghost_name ≡ l.initial.self.tests.ghost_name;
  reached : (l.from ≤ l.at) × (l.at ≤ length l.initial.self.bytes.now);
  tests : l.self.tests.now ≡ l.initial.self.tests.now + (l.at - l.from);
  before : line_feed_from l.initial.self.bytes.now l.from
      ≡ line_feed_from l.initial.self.bytes.now l.at;
}

abbrev pub decreases-loop-at : goal.decreases-loop-at
decreases-loop-at l = length l.self.bytes.now - l.at
