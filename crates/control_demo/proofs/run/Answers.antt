use Rattle.std.proofs.Common.{rules}
use Rattle.control_demo.proofs.run.Goals as goal

pub returns-clause-serves : goal.returns-clause-serves
returns-clause-serves g c = search rules

pub returns-clause-err : goal.returns-clause-err
returns-clause-err g c = search rules
