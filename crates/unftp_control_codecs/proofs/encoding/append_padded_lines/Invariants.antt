use Rattle.std.proofs.Common.{◌≡◌, ◌≤◌, ◌++◌, take, map, flat_map, vec_capacity}
use Rattle.unftp_control_codecs.specs.Encoding.{padded_line}
use Rattle.unftp_control_codecs.proofs.encoding.append_padded_lines.Given as goal

abbrev pub invariant-loop-line : goal.invariant-loop-line
invariant-loop-line g l = record {
  items : l.buf.items ≡ l.fn.buf.items ++ flat_map padded_line
      (map g.S.AsSlice.items (take l.line-index l.lines));
  capacity : vec_capacity l.fn.buf ≤ vec_capacity l.buf;
}
