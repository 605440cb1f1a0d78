use Rattle.example_callers.specs.Relays.{Passes}
use Rattle.example_callers.proofs.relay.Connection.pass_all.Given as goal

abbrev pub invariant-loop : goal.invariant-loop
invariant-loop l = Passes l.fn.self l.self
