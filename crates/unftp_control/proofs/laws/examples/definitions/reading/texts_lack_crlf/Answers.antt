use Rattle.std.proofs.Common.{refl}
use Rattle.unftp_control.proofs.laws.examples.definitions.reading.texts_lack_crlf.Goals as goal

pub returns-clause-crlf : goal.returns-clause-crlf
returns-clause-crlf c = λ lacks. lacks.0 refl refl

pub returns-clause-within : goal.returns-clause-within
returns-clause-within c = λ lacks. lacks.1.1.0 refl refl
