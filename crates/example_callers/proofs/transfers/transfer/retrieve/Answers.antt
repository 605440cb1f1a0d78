use Rattle.std.proofs.Common.{◌≡◌, ◌++◌, ◌∷◌, [], drop, refl, rules}
use Rattle.example_callers.specs.DataAnswers.{Opened, OpenFailed, Took}
use Rattle.example_callers.specs.Transfers.{sending}
use Rattle.example_callers.proofs.TransferLemmas.{ended, opened, sent_all, sent_part}
use Rattle.example_callers.proofs.transfers.transfer.retrieve.Goals as goal

pub returns-then-is_err : goal.returns-then-is_err
returns-then-is_err g c =
    let D = g.D.DataConnection in
    let failed : D.answers c.open.new.self ≡ D.answers c.args.connection.now ++ OpenFailed ∷ [] =
    search rules in
    record { came_to = ([], ended _ OpenFailed failed (λ later. refl)) }

pub loop-rest-init : goal.loop-rest-init
loop-rest-init g c =
    let D = g.D.DataConnection in
    let done : D.answers c.open.new.self ≡ D.answers c.args.connection.now ++ Opened ∷ [] =
    search rules in
    rw c.split.ensures.after record {
      retrieving = record {
        so_far = [];
        goes_on = opened (sending (drop c.args.offset c.args.file.now)) _ _ done;
      };
    }

pub returns-in-Ok-eq0 : goal.returns-in-Ok-eq0
returns-in-Ok-eq0 g c =
    let D = g.D.DataConnection in
    let none : D.answers c.send.new.self
    ≡ D.answers c.loop-rest.connection ++ Took c.loop-rest.rest.now 0 ∷ [] =
    search rules in
    record {
      came_to = sent_part c.loop-rest.rest.now c.loop-rest.invariant.retrieving (search rules) none;
    }

pub returns : goal.returns
returns g c = record {
  came_to = sent_all c.loop-rest.rest.now c.loop-rest.invariant.retrieving (search rules)
      c.close.ensures;
}
