use Rattle.std.proofs.Common.{◌≡◌, ◌≤◌, ◌++◌, length, take, vec_capacity, vec_len}
use Rattle.unftp_control_log.specs.LogLine.{shown}
use Rattle.unftp_control_message.specs.SentValues.{unescaped}
use Rattle.unftp_control_log.proofs.text.append_unescaped.Given as goal

abbrev pub invariant-bytes : goal.invariant-bytes
invariant-bytes l = record {
  whole : l.fn.buf.items ++ shown (unescaped l.fn.sent) ≡ l.buf.items ++ shown (unescaped l.rest);
  kept : take (vec_len l.fn.buf) l.buf.items ≡ l.fn.buf.items;
  longer : vec_len l.fn.buf ≤ vec_len l.buf;
  capacity : vec_capacity l.fn.buf ≤ vec_capacity l.buf;
}

abbrev pub decreases-bytes : goal.decreases-bytes
decreases-bytes l = length l.rest
