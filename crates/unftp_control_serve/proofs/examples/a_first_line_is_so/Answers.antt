use Rattle.std.proofs.Common.{[], arith, codes, refl}
use Rattle.unftp_control_defs.proofs.LineLemmas.{line_first}
use Rattle.unftp_control_serve.proofs.ExampleLemmas.{noop_line}
use Rattle.unftp_control_serve.proofs.examples.a_first_line_is_so.Goals as goal

pub returns-clause-line : goal.returns-clause-line
returns-clause-line c = (refl, omega arith, noop_line, refl, refl, omega arith)

pub returns-clause-part : goal.returns-clause-part
returns-clause-part c = λ is. let all = (line_first (codes "NOOP\r") [] is.2).0 in cc

pub returns-clause-two_lines : goal.returns-clause-two_lines
returns-clause-two_lines c = λ is. let all = (line_first (codes "NOOP\r\nNO\n") [] is.2).0 in cc

pub returns-clause-dropped : goal.returns-clause-dropped
returns-clause-dropped c = (noop_line, refl, refl, omega arith)

pub returns-clause-not_ended : goal.returns-clause-not_ended
returns-clause-not_ended c = λ is. let all = (line_first (codes "NOOP") [] is.0).0 in cc
