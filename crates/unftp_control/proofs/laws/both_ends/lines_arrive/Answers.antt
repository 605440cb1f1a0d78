use Rattle.unftp_control.proofs.ConversationLemmas.{events-lines, events-sent}
use Rattle.unftp_control.proofs.laws.both_ends.lines_arrive.Goals as goal

pub returns : goal.returns
returns c = record { commands = events-sent; lines = events-lines }
