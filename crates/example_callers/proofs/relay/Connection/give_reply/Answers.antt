use Rattle.std.proofs.Common.{refl}
use Rattle.example_callers.proofs.RelayLemmas.{given_passes}
use Rattle.example_callers.proofs.relay.Connection.give_reply.Goals as goal

pub returns : goal.returns
returns c = let given = c.next_reply.ensures in
    given_passes c.args.self.now _ c.next_reply.result given.ok given.err given.out_err refl
