use Rattle.std.proofs.Common.{◌≡◌, take, map, string_bytes}
use Rattle.unftp_control_message.proofs.reply.reply.lines_again.Given as goal

abbrev pub invariant-loop-line : goal.invariant-loop-line
invariant-loop-line l = map string_bytes l.again.items ≡ map string_bytes
    (take l.line-index l.lines.items)
