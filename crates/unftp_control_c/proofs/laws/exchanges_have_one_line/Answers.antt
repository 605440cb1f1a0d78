use Rattle.unftp_control_c.proofs.ExchangeLawLemmas.{line_is_there, one_line}
use Rattle.unftp_control_c.proofs.laws.exchanges_have_one_line.Goals as goal

pub returns-clause-same : goal.returns-clause-same
returns-clause-same c = one_line

pub returns-clause-memory : goal.returns-clause-memory
returns-clause-memory c = line_is_there
