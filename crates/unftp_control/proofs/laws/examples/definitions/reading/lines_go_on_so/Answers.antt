use Rattle.std.proofs.Common.{[], codes, refl}
use Rattle.unftp_control.proofs.laws.examples.definitions.reading.lines_go_on_so.Goals as goal

pub returns-clause-text : goal.returns-clause-text
returns-clause-text c = λ goes. goes (codes "x") refl

pub returns-clause-no_text : goal.returns-clause-no_text
returns-clause-no_text c = λ goes. goes [] refl
