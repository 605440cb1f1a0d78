use Rattle.std.proofs.Common.{◌≡◌, ◌+◌, ◌≤◌, length}
use Rattle.unftp_control_message.specs.SentValues.{unescaped}
use Rattle.unftp_control_message.proofs.sent.unescaped_len.Given as goal

abbrev pub invariant-units : goal.invariant-units
invariant-units l = record {
  count : length (unescaped l.fn.sent) ≡ l.len + length (unescaped l.rest);
  within : l.len + length l.rest ≤ length l.fn.sent;
}

abbrev pub decreases-units : goal.decreases-units
decreases-units l = length l.rest
