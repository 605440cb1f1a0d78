-- Logs that are put together: line by line, and piece by piece.
use Rattle.std.proofs.Common.{◌≡◌, ℕ, ◌<◌, ◌≤◌, ◌+◌, ◌-◌, ◌^◌, List, [], ◌∷◌, ◌++◌, length, Option, Some, Ok, inl, inr, refl, sym, ap, subst, ◌∙◌, arith, append_assoc, append-nil, length-append}
use Rattle.std.specs.Prelude.{◌⊎◌, if◌then◌else◌}
use Rattle.std.specs.List.{concat}
use Rattle.std.proofs.lemmas.List.Concat.{flat_map-append}
use Rattle.unftp_control_defs.specs.Bytes.{Bytes, LF}
use Rattle.unftp_control_defs.specs.Events.{FtpEvent}
use Rattle.unftp_control_defs.specs.Input.{InputState, ReadFails, ReadsEnd, ReadsPiece, WereRead}
use Rattle.unftp_control_defs.specs.Lines.{lines_of, incomplete_line}
use Rattle.unftp_control_defs.specs.TakingSteps.{TakesEvent}
use Rattle.unftp_control_defs.proofs.InputLemmas.{WereRead-more, WereRead-no_more, concat-more}
use Rattle.unftp_control_defs.proofs.LineLemmas.{incomplete_line-append, incomplete_line-incomplete, line_first, lines_of-append, lines_of-incomplete}
use Rattle.unftp_control_log.specs.LogLine.{log_line, unless_too_long}
use Rattle.unftp_control_serve.specs.Decoder.{FindsNoLine, Pending, TakesLine, line_after, pushed}
use Rattle.unftp_control_serve.specs.EventMeaning.{event_meant, refuses_length}
use Rattle.unftp_control_serve.specs.Writing.{OutputState, SendFailed, IsSent}
use Rattle.unftp_control_serve.specs.declared.error.ServeError.{ServeError}
use Rattle.unftp_control_serve.specs.declared.error.ServeError.TheVariants as error
use Rattle.unftp_control_serve.specs.declared.event.Event.{Event}
use Rattle.unftp_control_serve.proofs.EventLineLemmas.{line_after-taken, refuses_length-exceeds}
use Rattle.unftp_control_serve.proofs.SendLemmas.{HasWritten-nothing, HasWritten-then, IsFlushed-then}
use Rattle.example_callers.specs.Log.{LogEnded, LogsAll, StopsAt, StopsInLast, log_entry, log_of}

pub IsSent-nothing : (output : OutputState) → IsSent [] output output
IsSent-nothing output =
    record { written = HasWritten-nothing output; no_failure = refl; flushed = omega arith }

IsSent-then : (limit : Option ℕ) (lines more : List Bytes) {before between after : OutputState}
    → IsSent (log_of limit lines) before between → IsSent (log_of limit more) between after
    → IsSent (log_of limit (lines ++ more)) before after
IsSent-then limit lines more {before} {between} {after} first second =
    rw (flat_map-append (log_entry limit) lines more) record {
      written = HasWritten-then first.written second.written;
      no_failure = second.no_failure ∙ first.no_failure;
      flushed = IsFlushed-then (log_of limit lines) (log_of limit more) [] before.unflushed
          between.unflushed after.unflushed first.flushed second.flushed;
    }

-- in the loop over the pending lines: the first of them are logged
pub record Halfway (limit : Option ℕ) (bytes : Bytes) (pending : Pending)
    (before now : OutputState) : Type 0 where
  pub logged : List Bytes
  pub limited : pending.limit ≡ limit
  pub split : lines_of bytes ≡ logged ++ lines_of pending.bytes
  pub same_end : incomplete_line bytes ≡ incomplete_line pending.bytes
  pub sent : IsSent (log_of limit logged) before now

module _ {limit : Option ℕ} {bytes : Bytes} {p : Pending} {before now : OutputState}
    (so_far : Halfway limit bytes p before now) where
  -- no line is left
  pub Halfway-all : {q : Pending} → FindsNoLine p q → IsSent
      (log_of limit (lines_of bytes)) before now
  Halfway-all none =
      let all = so_far.split ∙ ap (λ lines. so_far.logged ++ lines)
      (lines_of-incomplete p.bytes none.unended) ∙ append-nil so_far.logged in
      subst (λ lines. IsSent (log_of limit lines) before now) (sym all) so_far.sent

  pub Halfway-end : {q : Pending} → FindsNoLine p q → q.bytes ≡ incomplete_line bytes
  Halfway-end none = none.same
      ∙ sym (so_far.same_end ∙ incomplete_line-incomplete p.bytes none.unended)

  next_lines : {event : FtpEvent} {left : Bytes} (next : TakesEvent p.limit p.bytes event left)
      → lines_of bytes ≡ so_far.logged ++ next.line ∷ lines_of left
  next_lines {left = left} next = so_far.split ∙ ap (λ lines. so_far.logged ++ lines)
      (ap lines_of next.whole ∙ (line_first next.line left next.is_line).0)

  -- the log stops at the next line
  pub Halfway-stops : {event : FtpEvent} {left : Bytes} {error : ServeError} {after : OutputState}
      (next : TakesEvent p.limit p.bytes event left)
      → SendFailed error (log_entry limit next.line) now after
      → StopsAt limit (lines_of bytes) before after error
  Halfway-stops {left = left} next failed = record {
    logged = so_far.logged;
    line = next.line;
    later = lines_of left;
    split = next_lines next;
    between = now;
    sent = so_far.sent;
    fails = failed;
  }

  module _ (event : Event) {q : Pending} (first : TakesLine p (event_meant event) q)
      {line : Bytes} (is : line ≡ line_after {E = Unit {0}} p (Ok (Some event)) q) where
    -- the entry of an event that was taken is that of its line
    pub entry_is : log_line (event_meant event) line ++ LF ∷ [] ≡ log_entry limit first.takes.line
    entry_is =
        let kept = line_after-taken (Unit {0}) event first
        ∙ ap (λ too_long. if too_long then [] else first.takes.line)
        (ap refuses_length first.takes.meaning ∙ refuses_length-exceeds p.limit first.takes.line) in
        ap (λ line. log_line (event_meant event) line ++ LF ∷ []) (is ∙ kept)
        ∙ ap (λ event. log_line event (unless_too_long p.limit first.takes.line) ++ LF ∷ [])
        first.takes.meaning
        ∙ ap (λ limit. log_entry limit first.takes.line) so_far.limited

    -- the next line is logged
    pub Halfway-next : {after : OutputState} → q.limit ≡ p.limit
        → IsSent (log_line (event_meant event) line ++ LF ∷ []) now after
        → Halfway limit bytes q before after
    Halfway-next {after} same sent =
        let line = first.takes.line in record {
          logged = so_far.logged ++ line ∷ [];
          limited = same ∙ so_far.limited;
          split = next_lines first.takes
              ∙ sym (append_assoc so_far.logged (line ∷ []) (lines_of q.bytes));
          same_end = so_far.same_end ∙ ap incomplete_line first.takes.whole
              ∙ (line_first line q.bytes first.takes.is_line).1;
          sent = IsSent-then limit so_far.logged (line ∷ []) so_far.sent
              (subst (λ text. IsSent text now after)
              (entry_is ∙ sym (append-nil (log_entry limit line))) sent);
        }

-- in the loop over the pieces: all lines that were read are logged
pub record Logging (limit : Option ℕ) (before now : OutputState) (i j : InputState)
    (decoder : Pending) (turn : ℕ) : Type 0 where
  pub all : LogsAll limit before now i j [] 0
  pub pending : decoder.bytes ≡ incomplete_line (concat all.pieces)
  pub limited : decoder.limit ≡ limit
  pub turns : turn ≤ length (concat all.pieces)

module _ {limit : Option ℕ} {before now : OutputState} {i j : InputState} {decoder : Pending}
    {turn : ℕ} (so_far : Logging limit before now i j decoder turn) where
  abbrev read_so_far : Bytes
  read_so_far = concat so_far.all.pieces

  pub Logging-too_often : 2 ^ 64 - 1 ≤ turn → LogEnded limit before now i j error.TooManyReads
  Logging-too_often many = (so_far.all, omega (arith, many, so_far.turns))

  -- a read came to the end, or failed
  pub Logging-end : {k : InputState} → ReadsEnd j k → LogsAll limit before now i k (0 ∷ []) 0
  Logging-end end = record {
    pieces = so_far.all.pieces;
    were_read = WereRead-no_more so_far.all.were_read (0 ∷ []) end.given end.reads;
    sent = so_far.all.sent;
    reads_failed = omega (arith, end.failures, so_far.all.reads_failed);
  }

  pub Logging-failed : {k : InputState} → ReadFails j k → LogsAll limit before now i k [] 1
  Logging-failed fails = record {
    pieces = so_far.all.pieces;
    were_read = WereRead-no_more so_far.all.were_read [] fails.given
        (fails.reads ∙ sym (append-nil j.reads));
    sent = so_far.all.sent;
    reads_failed = omega (arith, fails.failures, so_far.all.reads_failed);
  }

  module _ {k : InputState} {piece : Bytes} (read : ReadsPiece j k piece) where
    were_read : WereRead i k (so_far.all.pieces ++ piece ∷ []) []
    were_read = WereRead-more so_far.all.were_read piece read

    -- the log stopped in it
    module _ {after : OutputState} where
      in_last : {failure : ServeError} → ((failure ≡ error.OutOfMemory) × (after ≡ now))
          ⊎ StopsAt limit (lines_of (incomplete_line read_so_far ++ piece)) now after failure
          → StopsInLast limit before after i k failure
      in_last stops = record {
        pieces = so_far.all.pieces;
        last = piece;
        were_read = were_read;
        between = now;
        sent = so_far.all.sent;
        stops = stops;
        no_read_failed = omega (arith, read.failures, so_far.all.reads_failed);
      }

      pub Logging-stops : (failure : ServeError) → ((failure ≡ error.OutOfMemory) × (after ≡ now))
          ⊎ StopsAt limit (lines_of (incomplete_line read_so_far ++ piece)) now after failure
          → LogEnded limit before after i k failure
      Logging-stops error.OutOfMemory stops = in_last stops
      Logging-stops (error.Write failed) stops = in_last stops
      Logging-stops error.WriteZero stops = in_last stops
      Logging-stops failure (inr stops) = absurd stops.fails
      Logging-stops failure (inl none) = absurd (cc)

    -- it is pending, with the lines that end in it
    module _ {full : Pending} (is : full ≡ pushed decoder piece) where
      bytes_are : full.bytes ≡ incomplete_line read_so_far ++ piece
      bytes_are = ap (λ pending. pending.bytes) is ∙ ap (λ bytes. bytes ++ piece) so_far.pending

      limit_is : full.limit ≡ limit
      limit_is = ap (λ pending. pending.limit) is ∙ so_far.limited

      -- they are logged
      pub Logging-next : {emptied : Pending} {after : OutputState}
          → IsSent (log_of full.limit (lines_of full.bytes)) now after
          → emptied.bytes ≡ incomplete_line full.bytes → emptied.limit ≡ full.limit
          → Logging limit before after i k emptied (turn + 1)
      Logging-next sent left kept =
          let whole = concat-more so_far.all.pieces piece in
          record {
            all = record {
              pieces = so_far.all.pieces ++ piece ∷ [];
              were_read = were_read;
              sent = rw (whole, lines_of-append read_so_far piece)
                  (IsSent-then limit (lines_of read_so_far) _ so_far.all.sent
                  (rw (limit_is, bytes_are) at sent));
              reads_failed = omega (arith, read.failures, so_far.all.reads_failed);
            };
            pending = left ∙ ap incomplete_line bytes_are
                ∙ sym (incomplete_line-append read_so_far piece) ∙ sym (ap incomplete_line whole);
            limited = kept ∙ limit_is;
            turns = rw whole
                (omega (arith, so_far.turns, length-append read_so_far piece, read.size.0));
          }

      -- or the log stopped at one of them
      pub Logging-stops_at : (failure : ServeError) {after : OutputState}
          → StopsAt full.limit (lines_of full.bytes) now after failure
          → LogEnded limit before after i k failure
      Logging-stops_at failure stops = Logging-stops failure (inr (rw (limit_is, bytes_are) at stops))
