-- The pieces that an engine was fed.
use Rattle.std.proofs.Common.{◌≡◌, ℕ, ◌+◌, ◌<◌, inl, inr, Bool, true, false, List, [], ◌∷◌, ◌++◌, Bor, None, Result, Err, suc, length, map, take, drop, get_or, refl, ap, ◌∙◌}
use Rattle.std.specs.Prelude.{IsTrue, is_ok}
use Rattle.std.specs.List.{concat}
use Rattle.std.proofs.Math.Seq.{split_at}
use Rattle.std.proofs.lemmas.Bool.{false≢true}
use Rattle.std.proofs.lemmas.List.{append-nil, map-append, map_more}
use Rattle.std.proofs.lemmas.List.Folds.{concat-append}
use Rattle.unftp_control_defs.specs.Bytes.{Bytes}
use Rattle.unftp_control_defs.specs.Events.{events}
use Rattle.unftp_control_defs.specs.Run.{SessionLaw, run_for}
use Rattle.unftp_control_serve.specs.Endings.{RunFinished, PieceOutcome, Snapshot}
use Rattle.unftp_control_serve.specs.Engine.{EngineState, IsFed, IsRunning, LacksPieceRoom, bytes_with, more_left}
use Rattle.unftp_control_serve.specs.declared.error.ServeError.{ServeError}
use Rattle.unftp_control_serve.proofs.SoFarLemmas.{AnsweredSoFar, AnsweredSoFar-ended, AnsweredSoFar-on, RunFailed-on, gone_on}
use Rattle.example_callers.specs.Pieces.{FailsAtPiece}

-- a piece among others, after those that were sent
pub record ComesAfter (sent piece : Bytes) (pieces : List Bytes) : Type 0 where
  pub first : List Bytes
  pub later : List Bytes
  pub whole : pieces ≡ first ++ piece ∷ later
  pub same : concat first ≡ sent

module _ {S : Type 0} {law : SessionLaw S} {m n : Snapshot S} {sent : Bytes} {engine : EngineState}
    (so_far : AnsweredSoFar None law m n sent engine) (piece : Bytes) where
  pub AnsweredSoFar-more : {k : Snapshot S} {engine' : EngineState}
      → (IsRunning engine → IsFed law n.state engine piece engine')
      → (IsRunning engine
      → RunFinished law n (run_for engine.limit law n.state (bytes_with engine piece)) k)
      → (engine.finished ≡ true → (k ≡ n) × (engine' ≡ more_left engine piece))
      → AnsweredSoFar None law m k (sent ++ piece) engine'
  AnsweredSoFar-more {k} {engine'} is answered over = by_end engine.finished refl
    where
      by_end : (finished : Bool) → engine.finished ≡ finished
          → AnsweredSoFar None law m k (sent ++ piece) engine'
      by_end false on = let fed = is (so_far.no_failure, on) in
          rw fed.is (AnsweredSoFar-on so_far on piece engine'.scanned fed.scanned
          (answered (so_far.no_failure, on)))
      by_end true done = rw ((over done).1, (over done).0) (AnsweredSoFar-ended so_far done piece)

  -- at an error of `feed`
  pub FailsAtPiece-so : {k : Snapshot S} {pieces : List Bytes} {error : ServeError} {T : Type 0}
      {result : Result T ServeError} → ComesAfter sent piece pieces → result ≡ Err error
      → (IsRunning engine
      → PieceOutcome engine.limit law n (bytes_with engine piece) (LacksPieceRoom engine piece) k
      result)
      → (engine.finished ≡ true → IsTrue (is_ok result))
      → FailsAtPiece law m pieces k error
  FailsAtPiece-so {k} {pieces} {error} {T} place failed outcome over = by_end engine.finished refl
    where
      by_outcome : engine.finished ≡ false
          → PieceOutcome {S = S} {T = T} engine.limit law n (bytes_with engine piece)
          (LacksPieceRoom engine piece) k (Err error) → FailsAtPiece law m pieces k error
      by_outcome on (inl (out_of_memory, lacks, kept)) = record {
        first = place.first;
        last = piece;
        later = place.later;
        whole = place.whole;
        failed = inl (out_of_memory, lacks.0, rw (place.same, kept) (gone_on so_far on).answered);
      }
      by_outcome on (inr (done, failed)) = record {
        first = place.first;
        last = piece;
        later = place.later;
        whole = place.whole;
        failed = inr (
          events None sent ++ done,
          rw place.same (RunFailed-on so_far on piece failed),
        );
      }

      by_end : (finished : Bool) → engine.finished ≡ finished → FailsAtPiece law m pieces k error
      by_end false on = by_outcome on (rw failed at (outcome (so_far.no_failure, on)))
      by_end true done = absurd (false≢true (rw failed at (over done)))

pub sent-more : (pieces : List (Bor Bytes)) (i : ℕ) (d : Bor Bytes) → i < length pieces →
    concat (map (λ piece. piece.now) (take (i + 1) pieces))
    ≡ concat (map (λ piece. piece.now) (take i pieces)) ++ (get_or pieces i d).now
sent-more pieces i d within =
    ap concat (map_more (λ piece. piece.now) pieces i d within)
    ∙ concat-append (map (λ piece. piece.now) (take i pieces)) ((get_or pieces i d).now ∷ [])
    ∙ ap (λ end. concat (map (λ piece. piece.now) (take i pieces)) ++ end)
    (append-nil (get_or pieces i d).now)

pub ComesAfter-at : (pieces : List (Bor Bytes)) (i : ℕ) (d : Bor Bytes) → i < length pieces
    → ComesAfter (concat (map (λ piece. piece.now) (take i pieces))) (get_or pieces i d).now
    (map (λ piece. piece.now) pieces)
ComesAfter-at pieces i d within = record {
  first = map (λ piece. piece.now) (take i pieces);
  later = map (λ piece. piece.now) (drop (suc i) pieces);
  whole = ap (map (λ piece. piece.now)) (split_at pieces i d within)
      ∙ map-append (λ piece. piece.now) (take i pieces) (get_or pieces i d ∷ drop (suc i) pieces);
  same = refl;
}
