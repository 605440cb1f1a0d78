use Rattle.std.proofs.Common.{refl}
use Rattle.example_callers.proofs.RelayLemmas.{looked_passes}
use Rattle.example_callers.proofs.relay.Connection.find_line.Goals as goal

pub returns : goal.returns
returns c = looked_passes c.args.self.now _ c.next_line.ensures.same refl refl
