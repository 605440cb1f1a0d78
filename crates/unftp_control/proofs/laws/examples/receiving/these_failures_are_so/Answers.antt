use Rattle.std.proofs.Common.{arith, lit≤, refl}
use Rattle.unftp_control_defs.proofs.ReplyLemmas.{IsPartial-front_of}
use Rattle.unftp_control.proofs.laws.examples.receiving.these_failures_are_so.Goals as goal

pub returns : goal.returns
returns c = record {
  read = λ error. (IsPartial-front_of _ refl, tt);
  read_at_the_limit = λ error failure. omega (arith, failure.1);
  too_long = (lit≤ tt, IsPartial-front_of _ refl);
  not_too_long = λ failure. omega (arith, failure.0);
  never = λ failure. failure;
}
