use Rattle.std.proofs.Common.{◌≡◌, [], ◌∙◌, take, arith}
use Rattle.std.proofs.lemmas.List.{take_all}
use Rattle.unftp_control_serve.specs.Endings.{snapshot_with}
use Rattle.unftp_control_serve.specs.Writing.{output_state_of}
use Rattle.std.proofs.lemmas.Result.{err_from_is_err_and}
use Rattle.unftp_control_serve.proofs.HeardLemmas.{Begins-refl, Begins-trans}
use Rattle.example_callers.proofs.PieceLemmas.{AnsweredSoFar-more, ComesAfter-at, FailsAtPiece-so, sent-more}
use Rattle.example_callers.proofs.pieces.answer_pieces.Goals as goal

pub loop-piece-preserved : goal.loop-piece-preserved
loop-piece-preserved g c = λ w so.
    let fed = c.in_ok-feed.ensures in
    let before = c.loop-piece.invariant w (Begins-trans w _ _ so fed.heard) in
    rw (sent-more c.args.pieces.now c.loop-piece.piece-index record { ref_ptr = (0, 0); now = [] }
    c.loop-piece-test.true)
    (AnsweredSoFar-more before _ (λ running. fed.fed running w so)
    (λ running. fed.outcome running w so)
    (λ finished. let same = fed.over finished in (
      λ i. snapshot_with g.H.Session.state g.H.Session.failures (output_state_of g.W.Write.contents)
          (same.1 i) (same.2 i),
      same.3,
    )))

pub returns-in_err-feed-clause-answered : goal.returns-in_err-feed-clause-answered
returns-in_err-feed-clause-answered g c =
    let error = err_from_is_err_and c.from_residual.result c.from_residual.ensures.1 in
    rw (error.1, error.2)
    (FailsAtPiece-so (c.loop-piece.invariant _ c.feed.ensures.heard) _
    (ComesAfter-at c.args.pieces.now c.loop-piece.piece-index
    record { ref_ptr = (0, 0); now = [] } c.loop-piece-test.true)
    c.in_err-feed.was (λ running. c.feed.ensures.outcome running _ (Begins-refl _))
    (λ finished. (c.feed.ensures.over finished).0))

pub returns : goal.returns
returns g c =
    let whole : take c.loop-piece.piece-index c.args.pieces.now ≡ c.args.pieces.now =
    take_all c.loop-piece.piece-index c.args.pieces.now (omega (arith, c.loop-piece-test.false)) in
    let all = rw whole at (c.loop-piece.invariant _ (Begins-refl _)) in
    record {
      written = all.answered.given.written;
      left = c.left.ensures ∙ all.left;
      answered = all.answered;
    }
