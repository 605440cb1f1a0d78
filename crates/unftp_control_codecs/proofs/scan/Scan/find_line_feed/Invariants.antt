use Rattle.std.proofs.Common.{◌≡◌, ◌≤◌, ◌+◌, ◌-◌, length}
use Rattle.unftp_control_codecs.specs.LineFeed.{line_feed_from}
use Rattle.unftp_control_codecs.proofs.scan.Scan.find_line_feed.Given as goal

abbrev pub invariant-loop-self : goal.invariant-loop-self
invariant-loop-self l = record {
  bytes : l.self.bytes.now ≡ l.initial.self.bytes.now;
  same_reference : l.self.tests.ghost_name ≡ l.initial.self.tests.ghost_name;
  reached : (l.from ≤ l.at) × (l.at ≤ length l.initial.self.bytes.now);
  tests : l.self.tests.now ≡ l.initial.self.tests.now + (l.at - l.from);
  before : line_feed_from l.initial.self.bytes.now l.from
      ≡ line_feed_from l.initial.self.bytes.now l.at;
}

abbrev pub decreases-loop-self : goal.decreases-loop-self
decreases-loop-self l = length l.self.bytes.now - l.at
