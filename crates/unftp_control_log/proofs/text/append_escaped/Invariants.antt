use Rattle.std.proofs.Common.{◌≡◌, ◌≤◌, ◌++◌, vec_capacity}
use Rattle.unftp_control_log.specs.LogLine.{shown}
use Rattle.unftp_control_log.proofs.ShownTextLemmas.{left}
use Rattle.unftp_control_log.proofs.text.append_escaped.Given as goal

abbrev pub invariant-loop-byte : goal.invariant-loop-byte
invariant-loop-byte l = record {
  items : l.buf.items ≡ l.fn.buf.items ++ l.yielded;
  whole : shown l.text ≡ l.yielded ++ left l.byte-iterator;
  capacity : vec_capacity l.fn.buf ≤ vec_capacity l.buf;
}
