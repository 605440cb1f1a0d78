use Rattle.std.proofs.Common.{arith, inr, refl}
use Rattle.unftp_control_serve.proofs.ExampleLemmas.{noop_line}
use Rattle.unftp_control_serve.proofs.examples.a_decoder_is_so.Goals as goal

pub returns-clause-well : goal.returns-clause-well
returns-clause-well c = record {
  start_within = omega arith;
  line_within = omega arith;
  compared_so_far = record { within = omega arith; shows = refl; few = inr (omega arith) };
  first_is = (refl, omega arith, noop_line, refl, refl, omega arith);
  limited = omega arith;
  no_more = omega arith;
  room = omega arith;
}
