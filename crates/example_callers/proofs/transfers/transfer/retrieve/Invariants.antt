use Rattle.std.proofs.Common.{drop, length}
use Rattle.example_callers.proofs.TransferLemmas.{Retrieving}
use Rattle.example_callers.proofs.transfers.transfer.retrieve.Given as goal

abbrev pub invariant-loop-rest : goal.invariant-loop-rest
invariant-loop-rest g l = record {
  retrieving : Retrieving (drop l.offset l.file) l.rest
      (g.D.DataConnection.answers l.fn.connection) (g.D.DataConnection.answers l.connection);
}

abbrev pub decreases-loop-rest : goal.decreases-loop-rest
decreases-loop-rest g l = length l.rest
