use Rattle.std.proofs.Common.{◌≡◌, ◌≤◌, ◌++◌, length}
use Rattle.unftp_control_log.specs.LogLine.{shown}
use Rattle.unftp_control_log.proofs.ShownTextLemmas.{left}
use Rattle.unftp_control_log.proofs.text.shown_length.Given as goal

abbrev pub invariant-loop-byte : goal.invariant-loop-byte
invariant-loop-byte l = record {
  counted : l.length ≤ length l.yielded;
  whole : shown l.text ≡ l.yielded ++ left l._byte-iterator;
}
