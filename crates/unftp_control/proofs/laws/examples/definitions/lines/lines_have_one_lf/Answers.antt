use Rattle.std.proofs.Common.{[], codes, refl}
use Rattle.unftp_control_defs.proofs.LackLemmas.{Lacks-test}
use Rattle.unftp_control_defs.proofs.LineLemmas.{line_first}
use Rattle.unftp_control.proofs.laws.examples.definitions.lines.lines_have_one_lf.Goals as goal

pub returns : goal.returns
returns c = record {
  crlf = record {
    body = codes "NOOP\r";
    whole = refl;
    one_end = Lacks-test 10 (codes "NOOP\r") refl;
  };
  empty = λ line. let all = (line_first [] [] line).0 in cc;
  more = λ line. let all = (line_first (codes "A\nB") [] line).0 in cc;
}
