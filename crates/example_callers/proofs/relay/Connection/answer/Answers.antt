use Rattle.std.proofs.Common.{refl}
use Rattle.example_callers.proofs.RelayLemmas.{answer_passes}
use Rattle.example_callers.proofs.relay.Connection.answer.Goals as goal

pub returns-in-Ok : goal.returns-in-Ok
returns-in-Ok c = let answered = c.answer.ensures in answer_passes c.args.self.now _
    c.answer.result _ answered.ok answered.may answered.single answered.err refl refl
