use Rattle.std.proofs.Common.{◌-◌, ◌^◌, length}
use Rattle.example_callers.proofs.TransferLemmas.{Storing}
use Rattle.example_callers.proofs.transfers.transfer.receive.Given as goal

abbrev pub invariant-loop-connection : goal.invariant-loop-connection
invariant-loop-connection g l = record {
  storing : Storing (g.D.DataConnection.answers l.fn.connection)
      (g.D.DataConnection.answers l.connection) l.fn.stored.items l.stored.items;
}

abbrev pub decreases-loop-connection : goal.decreases-loop-connection
decreases-loop-connection g l = 2 ^ 63 - length l.stored.items
