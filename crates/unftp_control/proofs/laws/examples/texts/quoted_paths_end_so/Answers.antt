use Rattle.std.proofs.Common.{[], refl}
use Rattle.unftp_control.proofs.laws.examples.texts.quoted_paths_end_so.Goals as goal

pub returns-clause-quote : goal.returns-clause-quote
returns-clause-quote c = λ none. none [] refl
