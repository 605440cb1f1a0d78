use Rattle.std.proofs.Common.{rules}
use Rattle.example_callers.proofs.CallerLemmas.{agreement-read}
use Rattle.example_callers.proofs.client.tls_agreed.Goals as goal
use Rattle.example_callers.proofs.client.tls_agreed.Goals.{in-Some, in-None}

pub returns-clause-reply : goal.returns-clause-reply
returns-clause-reply g c =
    let received = c.in_ok-read_reply.ensures in
    elim c.match-branch-2.branch [
      | in-Some w ↦ rw w.result-is (λ agreed. agreement-read _ _ _ _ _
          (rw w.in-Some.is at received.receives) (rw w.in-Some.is at received.dialogue)
          (w.tls_agreed.ensures.0 agreed))
      | in-None w ↦ rw w.result-is (search rules)
    ]
