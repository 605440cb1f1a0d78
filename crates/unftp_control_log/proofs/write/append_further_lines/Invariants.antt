use Rattle.std.proofs.Common.{◌≡◌, ◌≤◌, ◌++◌, flat_map, map, take, vec_capacity}
use Rattle.unftp_control_log.specs.ExchangeLine.{further_line}
use Rattle.unftp_control_log.proofs.write.append_further_lines.Given as goal

abbrev pub invariant-loop-line : goal.invariant-loop-line
invariant-loop-line l = record {
  items : l.buf.items
      ≡ l.fn.buf.items ++ flat_map further_line (map (λ line. line.items) (take l.line-index l.lines));
  capacity : vec_capacity l.fn.buf ≤ vec_capacity l.buf;
}
