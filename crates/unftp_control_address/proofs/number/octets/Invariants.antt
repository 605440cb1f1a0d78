use Rattle.std.proofs.Common.{◌≡◌, ◌++◌, length, take, option_map}
use Rattle.unftp_control_address.specs.Numbers.{octets_between}
use Rattle.unftp_control_address.proofs.number.octets.Given as goal

abbrev pub invariant-loop-place : goal.invariant-loop-place
invariant-loop-place g l = record {
  so_far : octets_between l.separator l.text
      ≡ option_map (λ ns. take l.place l.octets ++ ns) (octets_between l.separator l.rest);
  len : length l.octets ≡ g.row.N;
}
