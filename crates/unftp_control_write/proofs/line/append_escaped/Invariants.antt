use Rattle.std.proofs.Common.{◌≡◌, ◌≤◌, ◌++◌, take, vec_capacity}
use Rattle.unftp_control_defs.specs.Values.{escaped}
use Rattle.unftp_control_write.proofs.line.append_escaped.Given as goal

abbrev pub invariant-loop-byte : goal.invariant-loop-byte
invariant-loop-byte l = record {
  items : l.buf.items ≡ l.fn.buf.items ++ escaped (take l.byte-index l.text);
  capacity : vec_capacity l.fn.buf ≤ vec_capacity l.buf;
}
