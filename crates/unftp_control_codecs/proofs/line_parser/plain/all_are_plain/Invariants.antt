use Rattle.std.proofs.Common.{◌-◌, ◌+◌, ◌<◌}
use Rattle.unftp_control_codecs.specs.Values.{LacksRunEnd}
use Rattle.unftp_control_codecs.proofs.line_parser.plain.all_are_plain.Given as goal

abbrev pub invariant-loop-at : goal.invariant-loop-at
invariant-loop-at g l = record {
  within : l.at < l.last + g.row.N;
  none : LacksRunEnd l.bytes 0 l.at;
}

abbrev pub decreases-loop-at : goal.decreases-loop-at
decreases-loop-at g l = l.last - l.at
