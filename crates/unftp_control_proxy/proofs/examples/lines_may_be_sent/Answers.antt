use Rattle.std.proofs.Common.{◌≡◌, [], true, false, codes, arith, refl}
use Rattle.unftp_control_defs.proofs.LackLemmas.{Lacks-test}
use Rattle.unftp_control_defs.proofs.LineLemmas.{line_first}
use Rattle.unftp_control_proxy.proofs.examples.lines_may_be_sent.Goals as goal

pub returns : goal.returns
returns c = record {
  sent = record {
    is_line = record {
      body = codes "NOOP\r";
      whole = refl;
      one_end = Lacks-test 10 (codes "NOOP\r") refl;
    };
    short = omega arith;
    clear = refl;
  };
  long = λ may. omega (arith, may.short);
  unclear = λ may. let clear : false ≡ true = may.clear in absurd (cc);
  too_long = (refl, omega arith);
  not_too_long = λ why. omega (arith, why.1);
  unclear_first = λ why. let clear : false ≡ true = why.0 in absurd (cc);
  no_line_first = λ why. let all = (line_first (codes "NOOP") [] why.0).0 in cc;
}
