use Rattle.std.proofs.Common.{◌≡◌, ◌+◌, ◌*◌, length}
use Rattle.unftp_control_message.specs.SentValues.{cr_nul_count}
use Rattle.unftp_control_message.proofs.sent.few_cr_nul_count.Given as goal

abbrev pub invariant-run : goal.invariant-run
invariant-run l = record {
  count : cr_nul_count l.fn.bytes ≡ l.count + cr_nul_count l.rest;
  length : length l.fn.bytes ≡ 2 * l.count + length l.rest;
}

abbrev pub decreases-run : goal.decreases-run
decreases-run l = length l.rest
