use Rattle.std.proofs.Common.{◌-◌, ◌≡◌, ◌≤◌, length, drop}
use Rattle.unftp_control_defs.specs.Paths.{path_of, path_from}
use Rattle.unftp_control_codecs.proofs.line_parser.fields.path_start.Given as goal

abbrev pub invariant-loop-at : goal.invariant-loop-at
invariant-loop-at l = record {
  within : l.at ≤ length l.value;
  path : path_of l.value ≡ path_from l.in_word (drop l.at l.value);
}

abbrev pub decreases-loop-at : goal.decreases-loop-at
decreases-loop-at l = length l.value - l.at
