use Rattle.std.proofs.Common.{arith, refl}
use Rattle.unftp_control_client.specs.Order.{lines_taken, new_order}
use Rattle.unftp_control_client.proofs.OrderLemmas.{finals-owed, given-exchanges, given-taken}
use Rattle.unftp_control_client.proofs.laws.calls_keep_the_order.Goals as goal

pub returns : goal.returns
returns c = record {
  exchanges = λ calls. given-exchanges calls 0 new_order refl;
  taken = λ calls. given-taken calls 0 new_order (lines_taken new_order calls) (omega arith);
  complete = λ calls. finals-owed calls;
}
