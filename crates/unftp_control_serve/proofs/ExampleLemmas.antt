-- The line of the examples.
use Rattle.std.proofs.Common.{codes, refl}
use Rattle.unftp_control_defs.specs.Lines.{IsLine}
use Rattle.unftp_control_defs.proofs.LackLemmas.{Lacks-test}

pub noop_line : IsLine (codes "NOOP\r\n")
noop_line = record {
  body = codes "NOOP\r";
  whole = refl;
  one_end = Lacks-test 10 (codes "NOOP\r") refl;
}
