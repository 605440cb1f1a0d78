use Rattle.std.proofs.Common.{◌≡◌, ◌+◌, ◌≤◌, length, drop}
use Rattle.std.specs.Net.Text.{zero_run, longest_zero_run}
use Rattle.unftp_control_address.proofs.text.longest_zero_run.Given as goal

abbrev pub invariant-loop-place : goal.invariant-loop-place
invariant-loop-place l = record {
  run : l.run ≡ zero_run (drop l.place l.segments);
  longest : l.longest ≡ longest_zero_run (drop l.place l.segments);
  run_within : l.place + l.run ≤ length l.segments;
  longest_within : l.place + (l.longest.0 + l.longest.1) ≤ length l.segments;
}
