use Rattle.std.proofs.Common.{codes, refl, arith}
use Rattle.unftp_control_read.proofs.examples.lines_are_found.Goals as goal

pub returns-clause-first : goal.returns-clause-first
returns-clause-first c = record {
  line = codes "211-a";
  is_line = grind arith;
  cut = refl;
  text = refl;
  in_order = (omega arith, omega arith, omega arith);
}

pub returns-clause-last : goal.returns-clause-last
returns-clause-last c = record {
  line = codes "211 ";
  is_line = grind arith;
  cut = refl;
  text = refl;
  in_order = (omega arith, omega arith, omega arith);
}
