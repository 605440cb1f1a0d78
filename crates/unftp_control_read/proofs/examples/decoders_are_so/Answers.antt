use Rattle.std.proofs.Common.{arith, refl}
use Rattle.unftp_control_read.proofs.examples.decoders_are_so.Goals as goal

pub returns-clause-passed_over : goal.returns-clause-passed_over
returns-clause-passed_over c = λ searched. searched.lacks 1 (omega arith) refl refl
