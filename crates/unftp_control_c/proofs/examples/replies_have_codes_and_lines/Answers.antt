use Rattle.std.proofs.Common.{refl}
use Rattle.std.specs.Fmt.{digits}
use Rattle.unftp_control_c.proofs.examples.replies_have_codes_and_lines.Goals as goal

pub returns-clause-code_without_a_name : goal.returns-clause-code_without_a_name
unfolding digits
returns-clause-code_without_a_name c = refl

pub returns-clause-latin_1 : goal.returns-clause-latin_1
unfolding digits
returns-clause-latin_1 c = refl
