use Rattle.std.proofs.Common.{◌≡◌, map, take}
use Rattle.unftp_control_c.specs.Replies.{found_text}
use Rattle.unftp_control_c.proofs.found.joined.Given as goal

abbrev pub invariant-loop-line : goal.invariant-loop-line
invariant-loop-line l = l.text.items
    ≡ found_text (map (λ line. line.items) (take l.line-index l.lines.items))
