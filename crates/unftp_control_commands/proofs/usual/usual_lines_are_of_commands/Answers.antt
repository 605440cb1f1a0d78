use Rattle.unftp_control_commands.proofs.UsualReplyLemmas.{command_reply-number, reply_by_number-readable, reply_by_number-short}
use Rattle.unftp_control_commands.proofs.usual.usual_lines_are_of_commands.Goals as goal

pub returns : goal.returns
returns c = record { commands = command_reply-number; short = reply_by_number-short; readable = reply_by_number-readable }
