use Rattle.std.proofs.Common.{arith}
use Rattle.unftp_control_read.proofs.LineLemmas.{if_none, lacks_all}
use Rattle.unftp_control_read.proofs.lines.first_line.Goals as goal

pub returns-clause-is_line : goal.returns-clause-is_line
returns-clause-is_line c = c.next_line.ensures.is_line (λ k less. absurd (omega (arith, less)))

pub returns-clause-none : goal.returns-clause-none
returns-clause-none c = if_none c.next_line.result (lacks_all c.args.bytes.now)
    (c.next_line.ensures.none (λ k less. absurd (omega (arith, less))))
