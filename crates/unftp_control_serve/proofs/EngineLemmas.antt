-- An engine after a piece.
use Rattle.std.proofs.Common.{◌++◌, ◌≡◌, ℕ, ◌≤◌, ◌+◌, Bool, true, false, ltb, [], Option, Some, length, refl, sym, ap, ◌∙◌, arith}
use Rattle.std.specs.Prelude.{if◌then◌else◌}
use Rattle.std.proofs.lemmas.Bool.{ltb-false}
use Rattle.unftp_control_defs.specs.Bytes.{Bytes}
use Rattle.unftp_control_defs.specs.Events.{exceeds}
use Rattle.unftp_control_defs.specs.Lines.{incomplete_line}
use Rattle.unftp_control_defs.specs.Run.{SessionLaw, ends_for, unread}
use Rattle.unftp_control_defs.proofs.RunLemmas.{unread-on}
use Rattle.unftp_control_serve.specs.Decoder.{IsSeenAhead, Pending, cleared, kept_length, pushed, saturating_u64}
use Rattle.unftp_control_serve.specs.Engine.{AreScanned, EngineState, IsFed, after_end_with, bytes_with, ends_with, pending_with}

-- what is kept of an incomplete line is within the limit
pub kept_within : (limit : ℕ) (incomplete : Bytes) → kept_length (Some limit) incomplete ≤ limit
kept_within limit incomplete = by_length (ltb limit (length incomplete + 1)) refl
  where
    by_length : (too_long : Bool) → ltb limit (length incomplete + 1) ≡ too_long
        → (if too_long then 0 else length incomplete) ≤ limit
    by_length true long = omega arith
    by_length false short = omega (arith, ltb-false limit (length incomplete + 1) short)

-- nothing is kept of no bytes
pub nothing_kept : (limit : Option ℕ) → kept_length limit [] ≡ 0
nothing_kept limit = by_length (exceeds limit 1)
  where
    by_length : (too_long : Bool) → (if too_long then 0 else length {A = ℕ} []) ≡ 0
    by_length true = refl
    by_length false = refl

-- an engine over these pending bytes
abbrev pub engine_of : Pending → ℕ → Bool → Bool → EngineState
engine_of pending left failed finished = record {
  incomplete = pending.bytes;
  left = left;
  failed = failed;
  finished = finished;
  scanned = pending.scanned;
  limit = pending.limit;
  buffered = pending.buffered;
  held = pending.held;
}

-- A piece was pushed to `d`, and the lines of the run were taken, which made it `q`.
pub record WasFed {S : Type 0} (law : SessionLaw S) (s : S) (d q : Pending) (piece : Bytes)
    (ended : Bool) : Type 0 where
  pub all_scanned : d.unscanned ≡ 0
  pub ends : ended ≡ ends_for d.limit law s (d.bytes ++ piece)
  pub pending : q.bytes ≡ unread d.limit law s (d.bytes ++ piece)
  pub unscanned : IsSeenAhead q.unscanned (if ended then length q.bytes else 0)
  pub same_limit : q.limit ≡ d.limit
  pub same_held : q.held ≡ (pushed d piece).held
  pub scanned_once : q.scanned + q.unscanned
      ≡ (pushed d piece).scanned + (pushed d piece).unscanned

module _ {S : Type 0} {law : SessionLaw S} {s : S} {d q : Pending} {piece : Bytes} {ended : Bool}
    (h : WasFed law s d q piece ended) (left : ℕ) (failed finished : Bool) where
  open h use {all_scanned, ends, pending, unscanned, same_limit, same_held, scanned_once}

  abbrev engine : EngineState
  engine = engine_of d left failed finished

  after_end_so : after_end_with engine law s piece ≡ (if ended then q.bytes else [])
  after_end_so = λ i. if (sym ends i) then (sym pending i) else []

  -- its parts, one by one
  fed-so : {incomplete : Bytes} {finished : Bool} {buffered : ℕ}
      → incomplete ≡ pending_with engine law s piece → finished ≡ ended
      → buffered ≡ kept_length engine.limit incomplete → IsFed law s engine piece (record {
        incomplete = incomplete;
        left = saturating_u64 (length q.bytes);
        failed = false;
        finished = finished;
        scanned = q.scanned;
        limit = q.limit;
        buffered = buffered;
        held = q.held;
      })
  fed-so incomplete_is finished_is kept = record {
    is = rw (kept, incomplete_is, pending, finished_is ∙ ends, same_limit, same_held) refl;
    scanned = by_end ended after_end_so unscanned;
  }
    where
      by_end : (end : Bool) → after_end_with engine law s piece ≡ (if end then q.bytes else [])
          → IsSeenAhead q.unscanned (if end then length q.bytes else 0)
          → AreScanned q.scanned (engine.scanned + length piece)
          (length (after_end_with engine law s piece))
      by_end true after ahead = record {
        once = omega (arith, scanned_once, all_scanned);
        each = omega (arith, scanned_once, all_scanned, ap length after, ahead);
        few = omega (arith, scanned_once, all_scanned, ap length after, ahead);
      }
      by_end false after ahead = record {
        once = omega (arith, scanned_once, all_scanned);
        each = omega (arith, scanned_once, all_scanned, ap length after, ahead);
        few = omega (arith, scanned_once, all_scanned, ap length after, ahead);
      }

  pub fed-ended : ended ≡ true
      → IsFed law s engine piece (engine_of (cleared q) (saturating_u64 (length q.bytes)) false true)
  fed-ended is =
      fed-so (ap (λ end. if end then [] else incomplete_line (bytes_with engine piece))
      (sym is ∙ ends)) (sym is) (sym (nothing_kept engine.limit))

  pub fed-on : ended ≡ false → q.buffered ≡ kept_length d.limit q.bytes
      → IsFed law s engine piece (engine_of q (saturating_u64 (length q.bytes)) false false)
  fed-on is kept =
      let on : ends_with engine law s piece ≡ false = sym ends ∙ is in
      fed-so
      (pending ∙ unread-on law engine.limit s (bytes_with engine piece) on
      ∙ ap (λ end. if end then [] else incomplete_line (bytes_with engine piece)) (sym on))
      (sym is) kept
