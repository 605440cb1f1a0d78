use Rattle.std.proofs.Common.{None, Some, [], take, map, List}
use Rattle.std.specs.List.{concat}
use Rattle.unftp_control_serve.specs.Endings.{snapshot_with}
use Rattle.unftp_control_serve.specs.Writing.{Begins, appended_state_of}
use Rattle.example_callers.specs.Sessions.{snapshot_at_start}
use Rattle.unftp_control_serve.proofs.SoFarLemmas.{AnsweredSoFar}
use Rattle.example_callers.proofs.pieces.replies_to_pieces.Given as goal

abbrev pub invariant-loop-piece : goal.invariant-loop-piece
invariant-loop-piece g l = (heard : List g.H.Session.Heard)
    → Begins heard (g.H.Session.heard l.handler)
    → AnsweredSoFar None (g.H.Session.law heard)
    (snapshot_at_start (g.H.Session.state l.fn.handler) (g.H.Session.failures l.fn.handler)
    (Some []))
    (snapshot_with g.H.Session.state g.H.Session.failures appended_state_of l.handler l.replies)
    (concat (map (λ piece. piece.now) (take l.piece-index l.pieces))) l.engine
