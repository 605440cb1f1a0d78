use Rattle.std.proofs.Common.{◌≤◌, take, map, flat_map, length}
use Rattle.unftp_control_codecs.specs.Encoding.{padded_line}
use Rattle.unftp_control_codecs.proofs.encoding.padded_lines_len.Given as goal

abbrev pub invariant-loop-line : goal.invariant-loop-line
invariant-loop-line g l =
    l.len ≤ length (flat_map padded_line (map g.S.AsSlice.items (take l.line-index l.lines)))
