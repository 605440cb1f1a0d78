use Rattle.std.proofs.Common.{codes}
use Rattle.unftp_control_defs.proofs.LineLemmas.{Lines-lines_of, Lines-unique}
use Rattle.unftp_control.proofs.laws.examples.definitions.lines.inputs_have_lines.Goals as goal

pub returns-clause-lines_and_rest : goal.returns-clause-lines_and_rest
returns-clause-lines_and_rest c = Lines-lines_of (codes "NOOP\r\nPWD\nNO\r")

pub returns-clause-two_in_one : goal.returns-clause-two_in_one
returns-clause-two_in_one c = λ lines. let all = (Lines-unique _ _ _ lines).0 in cc
