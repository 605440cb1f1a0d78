use Rattle.std.proofs.Common.{◌≡◌, ◌≤◌, ◌++◌, codes, flat_map, take, vec_capacity}
use Rattle.std.specs.Net.Text.{hex}
use Rattle.unftp_control_address.proofs.text.append_next_segments.Given as goal

abbrev pub invariant-loop-segment : goal.invariant-loop-segment
invariant-loop-segment l = record {
  items : l.buf.items
      ≡ l.fn.buf.items ++ flat_map (λ s. codes ":" ++ hex s) (take l.segment-index l.segments);
  capacity : vec_capacity l.fn.buf ≤ vec_capacity l.buf;
}
