use Rattle.std.proofs.Common.{◌≡◌, ◌+◌, ◌*◌, length}
use Rattle.unftp_control_message.specs.SentValues.{cr_nul_count}
use Rattle.unftp_control_message.proofs.sent.cr_nul_count.Given as goal

abbrev pub invariant-fours : goal.invariant-fours
invariant-fours l = record {
  count : cr_nul_count l.fn.bytes ≡ l.count + cr_nul_count l.rest;
  length : length l.fn.bytes ≡ 2 * l.count + length l.rest;
}

abbrev pub decreases-fours : goal.decreases-fours
decreases-fours l = length l.rest
