use Rattle.std.proofs.Common.{[], arith}
use Rattle.unftp_control.proofs.StepLemmas.{scans_of_calls}
use Rattle.unftp_control.proofs.laws.tests_add_up.Goals as goal

pub returns-clause-total : goal.returns-clause-total
returns-clause-total c limit calls codec buffer h =
    omega (arith, (scans_of_calls _ [] calls codec buffer (omega arith) h).0)

pub returns-clause-bound : goal.returns-clause-bound
returns-clause-bound c limit calls codec buffer h = let all =
    scans_of_calls _ [] calls codec buffer (omega arith) h in omega (arith, all.0, all.1)
