use Rattle.std.proofs.Common.{◌≡◌, ◌+◌, ◌≤◌, ◌++◌, length}
use Rattle.unftp_control_message.specs.SentValues.{unescaped}
use Rattle.unftp_control_message.proofs.sent.unescape.Given as goal

abbrev pub invariant-parts : goal.invariant-parts
invariant-parts l = record {
  value : unescaped l.fn.sent ≡ l.value.items ++ unescaped l.rest;
  within : length l.value.items + length l.rest ≤ length l.fn.sent;
}

abbrev pub decreases-parts : goal.decreases-parts
decreases-parts l = length l.rest
