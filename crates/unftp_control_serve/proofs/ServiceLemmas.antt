-- A service, piece by piece.
use Rattle.std.proofs.Common.{◌≡◌, ℕ, max, ◌+◌, ◌-◌, ◌^◌, ◌≤◌, ◌⊎◌, inl, inr, Bool, true, false, List, [], ◌∷◌, ◌++◌, Option, Some, None, Result, Ok, Err, length, refl, sym, ◌∙◌, ap, subst, arith, append_assoc, length-append}
use Rattle.std.proofs.lemmas.List.{append-nil}
use Rattle.std.specs.List.{AllByRecursion, concat}
use Rattle.std.proofs.lemmas.Bool.{false≢true}
use Rattle.std.specs.Prelude.{if◌then◌else◌}
use Rattle.std.specs.Option.{IfSome}
use Rattle.std.specs.Prelude.{IfOk, OnOk}
use Rattle.std.specs.Io.KnownBytes.{Appends, Consumes, IsAtEnd}
use Rattle.unftp_control_defs.specs.Bytes.{Bytes, LF, Lacks}
use Rattle.unftp_control_defs.specs.Events.{FtpEvent, events}
use Rattle.unftp_control_defs.specs.Input.{InputState, HasPieceSize, ReadFails, ReadsEnd, ReadsPiece, WereRead}
use Rattle.unftp_control_defs.specs.Lines.{incomplete_line}
use Rattle.unftp_control_defs.specs.Run.{SessionLaw, last_state, replies, text_of, run_for, ends_for, unread, after_end}
use Rattle.unftp_control_defs.proofs.EncodingLemmas.{ReadsBack-encoded}
use Rattle.unftp_control_defs.proofs.LineLemmas.{Lines-lines_of, incomplete_line-append, incomplete_line-incomplete}
use Rattle.unftp_control_defs.proofs.RunLemmas.{after_end-ended, run-ended, unread-ended}
use Rattle.unftp_control_serve.specs.Endings.{Snapshot, RunFinished, RunFailed, NoRoom}
use Rattle.unftp_control_serve.specs.Decoder.{kept_length, saturating_u64}
use Rattle.unftp_control_serve.specs.Engine.{AreScanned, EngineState, IsRunning, LacksPieceRoom, after_end_with, bytes_with, ends_with, pending_with, fed, fresh}
use Rattle.unftp_control_serve.specs.Service.{AreReadBack, ServedInPieces, EndedLate, NoRoomForPiece, ReadFailed, ReadTooOften, Reports, ServeEnded, Serves, ServesKnown, most_held}
use Rattle.unftp_control_serve.specs.declared.service.Served.{Served}
use Rattle.unftp_control_serve.specs.declared.error.ServeError.{ServeError}
use Rattle.unftp_control_serve.specs.declared.error.ServeError.TheVariants as error
use Rattle.unftp_control_defs.proofs.InputLemmas.{WereRead-start, WereRead-more, WereRead-no_more, WereRead-ended, concat-more}
use Rattle.unftp_control_serve.proofs.EngineLemmas.{kept_within, nothing_kept}
use Rattle.unftp_control_serve.proofs.EndingLemmas.{GoneOn}
use Rattle.unftp_control_serve.proofs.SoFarLemmas.{AnsweredSoFar, AnsweredSoFar-on, AnsweredSoFar-start, RunFailed-on, gone_on}

-- in the loop of `serve`: all lines of what was read are answered, and the run goes on
pub record Serving (limit : Option ℕ) {S : Type 0} (law : SessionLaw S) (m n : Snapshot S)
    (i j : InputState) (engine : EngineState) (turn : ℕ) : Type 0 where
  pub pieces : List Bytes
  pub were_read : WereRead i j pieces []
  pub so_far : AnsweredSoFar limit law m n (concat pieces) engine
  pub running : IsRunning engine
  pub many : turn ≤ length (concat pieces)
  pub no_read_failed : j.failures ≡ i.failures
  pub buffered : engine.buffered ≡ kept_length limit engine.incomplete
  pub held : engine.held ≡ most_held limit [] pieces

-- of an input that comes in one piece more
most_held-more : (limit : Option ℕ) (incomplete : Bytes) (pieces : List Bytes) (piece : Bytes)
    → Lacks LF incomplete →
    most_held limit incomplete (pieces ++ piece ∷ [])
    ≡ max (most_held limit incomplete pieces)
    (kept_length limit (incomplete_line (incomplete ++ concat pieces)) + length piece)
most_held-more limit incomplete [] piece unended =
    let same : incomplete_line (incomplete ++ []) ≡ incomplete =
    ap incomplete_line (append-nil incomplete) ∙ incomplete_line-incomplete incomplete unended
    in
    rw same (omega arith)
most_held-more limit incomplete (first ∷ pieces) piece unended =
    let after : Bytes = incomplete_line (incomplete ++ first) in
    let same : incomplete_line (incomplete ++ (first ++ concat pieces)) ≡ incomplete_line
    (after ++ concat pieces) =
    ap incomplete_line (sym (append_assoc incomplete first (concat pieces)))
    ∙ incomplete_line-append (incomplete ++ first) (concat pieces) in
    let later =
    most_held-more limit after pieces piece (Lines-lines_of (incomplete ++ first)).unended in
    rw (same, later) (omega arith)

most_held-piece : (limit : Option ℕ) (pieces : List Bytes) (piece : Bytes) {held buffered : ℕ}
    → held ≡ most_held limit [] pieces →
    buffered ≡ kept_length limit (incomplete_line (concat pieces))
    → max held (buffered + length piece) ≡ most_held limit [] (pieces ++ piece ∷ [])
most_held-piece limit pieces piece most kept =
    rw (most_held-more limit [] pieces piece tt, most, kept) refl

most_held-within : (limit : ℕ) (incomplete : Bytes) (pieces : List Bytes)
    → AllByRecursion HasPieceSize pieces → most_held (Some limit) incomplete pieces ≤ limit + 4096
most_held-within limit incomplete [] each = omega arith
most_held-within limit incomplete (piece ∷ pieces) each =
    omega (
      arith,
      each.0.1,
      kept_within limit incomplete,
      most_held-within limit (incomplete_line (incomplete ++ piece)) pieces each.1,
    )

module _ {limit : Option ℕ} {S : Type 0} {law : SessionLaw S} {m : Snapshot S}
    {i : InputState} where
  pub Serving-start : {engine : EngineState} → engine ≡ fresh limit
      → Serving limit law m m i i engine 0
  Serving-start new = rw new record {
    pieces = [];
    were_read = WereRead-start i;
    so_far = AnsweredSoFar-start limit law m;
    running = (refl, refl);
    many = omega arith;
    no_read_failed = refl;
    buffered = sym (nothing_kept limit);
    held = refl;
  }

  module _ {n : Snapshot S} {j : InputState} (k : InputState) {engine : EngineState} {turn : ℕ}
      (s : Serving limit law m n i j engine turn) where
    on : engine.finished ≡ false
    on = s.running.1

    gone : GoneOn limit law m n (concat s.pieces)
    gone = gone_on s.so_far on

    -- a piece that was read
    module _ (piece : Bytes) (read : ReadsPiece j k piece) where
      whole : concat (s.pieces ++ piece ∷ []) ≡ concat s.pieces ++ piece
      whole = concat-more s.pieces piece

      were_read_so : WereRead i k (s.pieces ++ piece ∷ []) []
      were_read_so = WereRead-more s.were_read piece read

      -- and whose lines were answered
      module _ (after : Snapshot S) (all : RunFinished law n
          (run_for engine.limit law n.state (bytes_with engine piece)) after) (scanned : ℕ)
          (are_scanned : AreScanned scanned (engine.scanned + length piece)
          (length (after_end_with engine law n.state piece))) where
        so_far_more : AnsweredSoFar limit law m after (concat (s.pieces ++ piece ∷ []))
            (fed law n.state engine piece scanned)
        so_far_more = rw whole (AnsweredSoFar-on s.so_far on piece scanned are_scanned all)

        held_so : (fed law n.state engine piece scanned).held ≡ most_held limit []
            (s.pieces ++ piece ∷ [])
        held_so = most_held-piece limit s.pieces piece s.held
            (s.buffered ∙ ap (kept_length limit) (s.so_far.incomplete on))

        -- after which the run goes on
        pub Serving-next : ends_with engine law n.state piece ≡ false
            → Serving limit law m after i k (fed law n.state engine piece scanned) (turn + 1)
        Serving-next still_on = record {
          pieces = s.pieces ++ piece ∷ [];
          were_read = were_read_so;
          so_far = so_far_more;
          running = (refl, still_on);
          many = rw whole
              (omega (arith, s.many, read.size.0, length-append (concat s.pieces) piece));
          no_read_failed = read.failures ∙ s.no_read_failed;
          buffered = ap (λ limit. kept_length limit (pending_with engine law n.state piece))
              s.so_far.limited;
          held = held_so;
        }

        -- with which it ended
        pub Serving-done : {served : Served} → Reports served (fed law n.state engine piece scanned)
            → ends_with engine law n.state piece ≡ true → ServedInPieces limit law m after i k served
        Serving-done {served} reports done =
            let is_done : served.done ≡ true = reports.done ∙ done in
            record {
              pieces = s.pieces ++ piece ∷ [];
              were_read = rw is_done were_read_so;
              ended = reports.done ∙ so_far_more.finished;
              in_last =
                  λ _. record {
                    first = s.pieces;
                    last = piece;
                    whole = refl;
                    goes_on = gone.goes_on;
                  };
              at_end = λ h. absurd (false≢true (sym h ∙ is_done));
              answered = so_far_more.answered;
              left = reports.left ∙ so_far_more.left;
              scanned = rw reports.scanned so_far_more.scanned;
              held = reports.held ∙ held_so;
              no_read_failed = read.failures ∙ s.no_read_failed;
            }

      -- or at which it failed
      module _ (after : Snapshot S) where
        late : (error : ServeError)
            → (done : List FtpEvent) × RunFailed engine.limit law n (bytes_with engine piece)
            after error done → EndedLate limit law m after i k error
        late error (done, failed) = record {
          pieces = s.pieces;
          last = piece;
          were_read = were_read_so;
          done = events limit (concat s.pieces) ++ done;
          failed = RunFailed-on s.so_far on piece failed;
          late = (done, refl);
          no_read_failed = read.failures ∙ s.no_read_failed;
        }

        no_room : LacksPieceRoom engine piece → after ≡ n → NoRoomForPiece limit law m after i k
        no_room lacks same = record {
          pieces = s.pieces;
          last = piece;
          were_read = were_read_so;
          lacked =
              let kept = s.buffered ∙ ap (kept_length limit) (s.so_far.incomplete on) in
              omega (arith, lacks.1, s.held, kept);
          answered = record { answered = rw same gone.answered; goes_on = gone.goes_on };
          no_read_failed = read.failures ∙ s.no_read_failed;
        }

        pub Serving-failed : (error : ServeError)
            → NoRoom error (LacksPieceRoom engine piece) n after
            ⊎ ((done : List FtpEvent) × RunFailed engine.limit law n (bytes_with engine piece)
            after error done)
            → ServeEnded limit law m after i k error
        Serving-failed error.OutOfMemory (inl room) = inl (no_room room.1 room.2)
        Serving-failed error.OutOfMemory (inr failed) = inr (late error.OutOfMemory failed)
        Serving-failed (error.Write x) (inr failed) = late (error.Write x) failed
        Serving-failed error.WriteZero (inr failed) = late error.WriteZero failed
        Serving-failed (error.Handler x) (inr failed) = late (error.Handler x) failed
        Serving-failed error (inr failed) = absurd failed.1.means
        Serving-failed error (inl room) = absurd (cc)

    pub Serving-all : {served : Served} → Reports served engine → ReadsEnd j k
        → ServedInPieces limit law m n i k served
    Serving-all {served} reports end =
        let still_on : served.done ≡ false = reports.done ∙ on in
        record {
          pieces = s.pieces;
          were_read = rw still_on (WereRead-no_more s.were_read (0 ∷ []) end.given end.reads);
          ended = reports.done ∙ s.so_far.finished;
          in_last = λ h. absurd (false≢true (sym still_on ∙ h));
          at_end = λ _. end.at_end;
          answered = s.so_far.answered;
          left = reports.left ∙ s.so_far.left;
          scanned = rw reports.scanned s.so_far.scanned;
          held = reports.held ∙ s.held;
          no_read_failed = end.failures ∙ s.no_read_failed;
        }

    pub Serving-read_failed : ReadFails j k → ReadFailed limit law m n i k
    Serving-read_failed fails = record {
      pieces = s.pieces;
      were_read = WereRead-no_more s.were_read [] fails.given
          (fails.reads ∙ sym (append-nil j.reads));
      answered = record { answered = gone.answered; goes_on = gone.goes_on };
      read_failed = fails.failures ∙ ap (λ n. n + 1) s.no_read_failed;
    }

  pub Serving-too_often : {n : Snapshot S} {j : InputState} {engine : EngineState} {turn : ℕ}
      → Serving limit law m n i j engine turn → 2 ^ 64 - 1 ≤ turn → ReadTooOften limit law m n i j
  Serving-too_often s many =
      record {
        pieces = s.pieces;
        were_read = s.were_read;
        answered = record {
          answered = (gone_on s.so_far s.running.1).answered;
          goes_on = (gone_on s.so_far s.running.1).goes_on;
        };
        many = omega (arith, many, s.many);
        no_read_failed = s.no_read_failed;
      }

-- What is so of a known input, of which these bytes were read and `rest` was not, because the run
-- had ended in them.
module _ (limit : Option ℕ) {S : Type 0} (law : SessionLaw S) (s : S) (read rest : Bytes) where
  record AlikeRead (done : Bool) : Type 0 where
    same_run : run_for limit law s (read ++ rest) ≡ run_for limit law s read
    same_end : done ≡ ends_for limit law s (read ++ rest)
    more_unread : unread limit law s (read ++ rest) ≡ unread limit law s read ++ rest
    more_after_end : after_end limit law s (read ++ rest) ≡ after_end limit law s read ++ rest

  alike_read : (done : Bool) → done ≡ ends_for limit law s read → (done ≡ false → rest ≡ [])
      → AlikeRead done
  alike_read true ended at_end =
      let more = run-ended law limit s read rest (sym ended) in
      record {
        same_run = more.0;
        same_end = sym more.1;
        more_unread = unread-ended law limit s read rest (sym ended);
        more_after_end = after_end-ended law limit s read rest (sym ended);
      }
  alike_read false on at_end = rw (at_end refl) record {
    same_run = ap (run_for limit law s) (append-nil read);
    same_end = on ∙ ap (ends_for limit law s) (sym (append-nil read));
    more_unread = ap (unread limit law s) (append-nil read) ∙ sym (append-nil _);
    more_after_end = ap (after_end limit law s) (append-nil read) ∙ sym (append-nil _);
  }

known_input : (P : Bytes → Type 0) (a b : Option Bytes) (read : Bytes) {done : Bool}
    → Consumes a b read → (done ≡ false → IsAtEnd b) →
    ((input rest : Bytes) → b ≡ Some rest → input ≡ read ++ rest → (done ≡ false → rest ≡ [])
    → P input) → IfSome a P
known_input P None b read consumed at_end it = tt
known_input P (Some input) None read consumed at_end it = absurd consumed
known_input P (Some input) (Some rest) read consumed at_end it =
    it input rest refl consumed at_end

-- what all pieces come to
pub ServedInPieces-serves : {limit : Option ℕ} {S : Type 0} {law : SessionLaw S} {m n : Snapshot S}
    {i k : InputState} {served : Served} → ServedInPieces limit law m n i k served
    → Serves limit law m n i k served
ServedInPieces-serves {limit} {law} {m} {i} all = record {
  read = concat all.pieces;
  given = all.were_read.given;
  at_end = λ on. WereRead-ended (all.at_end on) (rw on at all.were_read);
  written = all.answered.given.written;
  flushed = all.answered.given.flushed;
  state = all.answered.ends_at;
  done = all.ended;
  tested = all.scanned;
  left = all.left;
}

-- and what a client reads of it
pub ServedInPieces-reads_back : {limit : Option ℕ} {S : Type 0} {law : SessionLaw S}
    {m n : Snapshot S} {i k : InputState} {served : Served}
    → ServedInPieces limit law m n i k served → AreReadBack limit law m.state i k
ServedInPieces-reads_back {limit} {law} {m} all = record {
  read = concat all.pieces;
  given = all.were_read.given;
  read_back =
      ReadsBack-encoded (replies law m.state (run_for limit law m.state (concat all.pieces)));
}

pub served_serves : {S : Type 0} (limit : Option ℕ) (law : SessionLaw S) (m n : Snapshot S)
    (i k : InputState) (result : Result Served ServeError)
    → IfOk result (ServedInPieces limit law m n i k)
    → IfOk result (Serves limit law m n i k) × OnOk result (AreReadBack limit law m.state i k)
served_serves limit law m n i k (Ok served) all =
    (ServedInPieces-serves all, ServedInPieces-reads_back all)
served_serves limit law m n i k (Err error) all = (tt, tt)

module _ {limit : Option ℕ} {S : Type 0} {law : SessionLaw S} {m n : Snapshot S} {i k : InputState}
    {served : Served} (s : Serves limit law m n i k served) where
  module _ (rest : Bytes) (is : k.remaining ≡ Some rest) (end : served.done ≡ false → rest ≡ [])
      (alike : AlikeRead limit law m.state s.read rest served.done) where
    abbrev input : Bytes
    input = s.read ++ rest

    -- where the run ended and nothing is left, what was not read is all that follows its end
    not_read : served.done ≡ true → served.left ≡ 0 → after_end limit law m.state input ≡ rest
    not_read done none =
        let nothing : after_end limit law m.state s.read ≡ [] =
        ap (λ ended. if ended then unread limit law m.state s.read else [])
        (sym s.done ∙ done)
        ∙ no_bytes (unread limit law m.state s.read) (omega (arith, none, s.left)) in
        alike.more_after_end ∙ ap (λ bytes. bytes ++ rest) nothing
      where
        no_bytes : (bytes : Bytes) → length bytes ≡ 0 → bytes ≡ []
        no_bytes [] h = refl
        no_bytes (b ∷ bytes) h = absurd (omega (arith, h))

    known : ServesKnown limit law m n k.remaining served input
    known = record {
      written = subst (λ run. Appends m.output.written n.output.written (text_of law m.state run))
          (sym alike.same_run) s.written.known;
      state = s.state ∙ ap (last_state law m.state) (sym alike.same_run);
      done = alike.same_end;
      tested =
          let more = length-append (after_end limit law m.state s.read) rest in
          rw alike.more_after_end record {
            once = omega (arith, s.tested.once, length-append s.read rest);
            each = omega (arith, s.tested.each, more, length-append s.read rest);
            few = omega (arith, s.tested.few, more, length-append s.read rest);
          };
      read = s.read;
      rest = rest;
      whole = refl;
      to_be_read = is;
      at_end = end;
      left = s.left
          ∙ ap saturating_u64
          (omega (
            arith,
            ap length alike.more_unread,
            length-append (unread limit law m.state s.read) rest,
          ));
      not_read = not_read;
      read_back = ReadsBack-encoded (replies law m.state (run_for limit law m.state input));
    }

  pub Serves-known : IfSome i.remaining (ServesKnown limit law m n k.remaining served)
  Serves-known =
      known_input (ServesKnown limit law m n k.remaining served) i.remaining k.remaining s.read
      s.given.known (λ on. (s.at_end on).none_left)
      (λ input rest is whole end. subst (ServesKnown limit law m n k.remaining served) (sym whole)
      (known rest is end (alike_read limit law m.state s.read rest served.done s.done end)))

-- the bound
pub ServedInPieces-bound : {limit : ℕ} {S : Type 0} {law : SessionLaw S} {m n : Snapshot S}
    {i k : InputState}
    {served : Served} → ServedInPieces (Some limit) law m n i k served → served.held ≤ limit + 4096
ServedInPieces-bound {limit} all =
    omega (arith, all.held, most_held-within limit [] all.pieces all.were_read.sizes)

pub served_limited : {S : Type 0} (limit : ℕ) (law : SessionLaw S) (m n : Snapshot S)
    (i k : InputState)
    (result : Result Served ServeError) → IfOk result (ServedInPieces (Some limit) law m n i k)
    → IfOk result (Serves (Some limit) law m n i k)
    × OnOk result (AreReadBack (Some limit) law m.state i k)
    × IfOk result (λ served. served.held ≤ limit + 4096)
served_limited limit law m n i k (Ok served) all =
    (ServedInPieces-serves all, ServedInPieces-reads_back all, ServedInPieces-bound all)
served_limited limit law m n i k (Err error) all = (tt, tt, tt)
