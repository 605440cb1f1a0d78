use Rattle.std.proofs.Common.{rules}
use Rattle.unftp_control_message.proofs.ReplyLemmas.{are_lines-map}
use Rattle.unftp_control_message.proofs.reply.reply.Reply.is_plain.Goals as goal
use Rattle.unftp_control_message.proofs.reply.reply.Reply.is_plain.Goals.{in-CodeAndMsg, in-MultiLine}

pub returns-then-has_three_digits : goal.returns-then-has_three_digits
returns-then-has_three_digits c = elim c.match-self.branch [
  | in-CodeAndMsg w ↦ search rules
  | in-MultiLine w ↦ let each = are_lines-map w.in-MultiLine.lines.items in search (rules, each)
]
