use Rattle.unftp_control_log.proofs.TextLemmas.{exchange_prints}
use Rattle.unftp_control_log.proofs.laws.exchange_lines_are_printable.Goals as goal

pub returns : goal.returns
returns c = exchange_prints
