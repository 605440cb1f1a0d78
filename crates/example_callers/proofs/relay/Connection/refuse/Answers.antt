use Rattle.std.proofs.Common.{refl}
use Rattle.example_callers.proofs.RelayLemmas.{answer_passes}
use Rattle.example_callers.proofs.relay.Connection.refuse.Goals as goal

pub returns : goal.returns
returns c = let answered = c.answer.ensures in answer_passes c.args.self.now _
    c.answer.result _ answered.ok answered.may answered.single answered.err refl refl
