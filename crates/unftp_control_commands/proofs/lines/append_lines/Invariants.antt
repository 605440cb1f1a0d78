use Rattle.std.proofs.Common.{◌≡◌, ◌++◌, take, map, string_bytes}
use Rattle.unftp_control_commands.proofs.lines.append_lines.Given as goal

abbrev pub invariant-loop-line : goal.invariant-loop-line
invariant-loop-line l = map string_bytes l.lines.items ≡ map string_bytes l.fn.lines.items
    ++ map (λ line. line.now) (take l.line-index l.more)
