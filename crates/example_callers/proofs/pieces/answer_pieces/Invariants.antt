use Rattle.std.proofs.Common.{None, take, map, List}
use Rattle.std.specs.List.{concat}
use Rattle.unftp_control_serve.specs.Endings.{snapshot_of}
use Rattle.unftp_control_serve.specs.Writing.{Begins}
use Rattle.unftp_control_serve.proofs.SoFarLemmas.{AnsweredSoFar}
use Rattle.example_callers.proofs.pieces.answer_pieces.Given as goal

abbrev pub invariant-loop-piece : goal.invariant-loop-piece
invariant-loop-piece g l = (heard : List g.H.Session.Heard)
    → Begins heard (g.H.Session.heard l.handler)
    → AnsweredSoFar None (g.H.Session.law heard)
    (snapshot_of g.H.Session.state g.H.Session.failures g.W.Write.contents l.fn.handler l.fn.output)
    (snapshot_of g.H.Session.state g.H.Session.failures g.W.Write.contents l.handler l.output)
    (concat (map (λ piece. piece.now) (take l.piece-index l.pieces))) l.engine
