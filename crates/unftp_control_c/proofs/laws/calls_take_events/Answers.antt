-- What a caller takes, call after call.
use Rattle.std.proofs.Common.{◌≡◌, ℕ, true, List, [], ◌∷◌, ◌++◌, map, length, take, drop, Option, refl, sym, ap, subst, ◌∙◌, arith, append_assoc, append-nil, length-append}
use Rattle.std.proofs.lemmas.Bool.{false≢true}
use Rattle.std.proofs.lemmas.List.{take-append-drop, take-append-le}
use Rattle.unftp_control_defs.specs.Bytes.{Bytes, LF, Lacks}
use Rattle.unftp_control_defs.specs.Events.{events}
use Rattle.unftp_control_defs.proofs.LineLemmas.{events-incomplete}
use Rattle.unftp_control_defs.proofs.TakenEventLemmas.{TakesEvent-events}
use Rattle.unftp_control_codecs.specs.FirstLine.{IsDropped, IsScannedWithin, reset}
use Rattle.unftp_control_codecs.specs.declared.FirstLine.TheVariants.{Incomplete}
use Rattle.unftp_control_codecs.proofs.FirstLineLemmas.{Finds, finds}
use Rattle.unftp_control_c.specs.declared.status.Status.TheVariants.{More}
use Rattle.unftp_control_c.specs.Next.{NextCall, Given, Left, at_next_line, codec_of, first_of, given_for, line_limit, next_codec}
use Rattle.unftp_control_c.specs.Numbers.{status_number}
use Rattle.unftp_control_c.specs.Taking.{AreCallerSteps, Called, Caller, CallerStep, Received, after_call, after_piece, all_given, caller_call, given_by, gives_none, input_of, new_caller}
use Rattle.unftp_control_c.specs.declared.next.Connection.{Connection}
use Rattle.unftp_control_c.proofs.CallLemmas.{NextLeft, Valid, invalid, asks, gave, given_is, gives_some, left_so, skipping_resumed, valid_resumed, valid_with_piece}
use Rattle.unftp_control_c.proofs.NextLemmas.{counts_of}
use Rattle.unftp_control_c.proofs.laws.calls_take_events.Goals as goal

-- A call is valid, after these bytes of the first line were dropped: no line feed is before the
-- offset, nor in what was dropped.
record IsKept (limit : Option ℕ) (now : Caller) (dropped : Bytes) : Type 0 where
  limited : line_limit now.connection.limit ≡ limit
  valid : Valid now
  within : IsScannedWithin (codec_of now.connection) now.bytes
  lost : IsDropped (codec_of now.connection) dropped

-- at the start of a line
kept_from_start : (connection : Connection) (bytes : Bytes) → IsKept (line_limit connection.limit)
    (record { connection = at_next_line connection; bytes = bytes }) []
kept_from_start connection bytes = record {
  limited = refl;
  valid = valid_resumed connection (reset (codec_of connection)) (length bytes) (omega arith)
      (λ on. refl);
  within = (omega arith, tt);
  lost = (tt, (λ on. absurd (cc)), (λ off. refl));
}

-- more bytes at the end
kept_with_piece : {limit : Option ℕ} (now : Caller) (dropped piece : Bytes)
    → IsKept limit now dropped → IsKept limit (after_piece now piece) dropped
kept_with_piece now dropped piece kept = record {
  limited = kept.limited;
  valid = valid_with_piece now piece kept.valid;
  within = (
    omega (arith, kept.within.0, length-append now.bytes piece),
    rw (take-append-le now.connection.offset now.bytes piece kept.within.0) kept.within.1,
  );
  lost = kept.lost;
}

-- What a call does: what is given, and then the events from the first line on, are the events from
-- there on before, whatever is received then.
record Does (limit : Option ℕ) (before : Bytes) (given : List Given) (after : Caller)
    : Type 0 where
  rest : Bytes
  rest_kept : IsKept limit after rest
  in_order : (more : Bytes) → given ++ map given_for (events limit ((rest ++ after.bytes) ++ more))
      ≡ map given_for (events limit (before ++ more))

module _ {limit : Option ℕ} (now : Caller) (dropped : Bytes) (kept_so : IsKept limit now dropped)
    (area : Bytes) where
  abbrev call : NextCall
  call = caller_call now area

  found_now : Finds (codec_of now.connection) dropped now.bytes (next_codec call) (first_of call)
  found_now = finds (codec_of now.connection) dropped now.bytes kept_so.within kept_so.lost

  unchanged : Does limit (dropped ++ now.bytes) [] now
  unchanged = record { rest = dropped; rest_kept = kept_so; in_order = λ more. refl }

  does : (left : Left) → NextLeft call left
      → Does limit (dropped ++ now.bytes) (given_by now.bytes left) (after_call now left)
  does _ (invalid not_valid) = absurd (false≢true (sym not_valid ∙ kept_so.valid))
  does _ (asks n ok found) =
      let none = subst (Finds (codec_of now.connection) dropped now.bytes (next_codec call)) found
      found_now in
      let all = counts_of call ok (Incomplete n) found in
      record {
        rest = dropped ++ take n now.bytes;
        rest_kept = record {
          limited = kept_so.limited;
          valid = valid_resumed now.connection (next_codec call) (length (drop n now.bytes))
              none.scanned_within.0 all.at_start;
          within = none.scanned_within;
          lost = rw (skipping_resumed now.connection (next_codec call))
              (rw none.same_limit at none.dropped_well);
        };
        in_order = λ more. ap (λ bytes. map given_for (events limit (bytes ++ more)))
            (append_assoc dropped (take n now.bytes) (drop n now.bytes)
            ∙ ap (λ bytes. dropped ++ bytes) (take-append-drop n now.bytes));
      }
  does _ (gave first room) = rw (given_is first, sym kept_so.limited) (record {
    rest = [];
    rest_kept = kept_from_start now.connection (drop (length first.line) now.bytes);
    in_order = λ more.
        ap (map given_for) (sym (TakesEvent-events (first.takes dropped found_now) more));
  })
  does _ _ = unchanged

-- What steps do, one after the other: what is given, and then the events from the first line on,
-- are the events from there on before.
record Run (limit : Option ℕ) (steps : List CallerStep) (now after : Caller)
    (dropped : Bytes) : Type 0 where
  rest : Bytes
  rest_kept : IsKept limit after rest
  in_order : all_given now steps ++ map given_for (events limit (rest ++ after.bytes))
      ≡ map given_for (events limit ((dropped ++ now.bytes) ++ input_of steps))

module _ (limit : Option ℕ) (after : Caller) where
  run_of : (steps : List CallerStep) (now : Caller) (dropped : Bytes) → IsKept limit now dropped
      → AreCallerSteps now steps after → Run limit steps now after dropped
  run_of [] now dropped kept_so are = record {
    rest = dropped;
    rest_kept = rw are kept_so;
    in_order =
        rw are (ap (λ bytes. map given_for (events limit bytes))
        (sym (append-nil (dropped ++ now.bytes))));
  }
  run_of (Received piece ∷ steps) now dropped kept_so are =
      let run = run_of steps (after_piece now piece) dropped
      (kept_with_piece now dropped piece kept_so) are in
      let joined : (dropped ++ (now.bytes ++ piece)) ++ input_of steps ≡ (dropped ++ now.bytes)
      ++ (piece ++ input_of steps) = simp append_assoc in
      record {
        rest = run.rest;
        rest_kept = run.rest_kept;
        in_order = run.in_order
            ∙ ap (λ bytes. map given_for (events limit bytes)) joined;
      }
  run_of (Called area left ∷ steps) now dropped kept_so are =
      let step = does now dropped kept_so area left (left_so (caller_call now area) left are.0) in
      let run = run_of steps (after_call now left) step.rest step.rest_kept are.1 in
      record {
        rest = run.rest;
        rest_kept = run.rest_kept;
        in_order = append_assoc (given_by now.bytes left) (all_given (after_call now left) steps)
            (map given_for (events limit (run.rest ++ after.bytes)))
            ∙ ap (λ later. given_by now.bytes left ++ later) run.in_order
            ∙ step.in_order (input_of steps);
      }

module _ (limited : ℕ) (after : Caller) (steps : List CallerStep)
    (are : AreCallerSteps (new_caller limited) steps after) where
  run : Run (line_limit limited) steps (new_caller limited) after []
  run = run_of (line_limit limited) after steps (new_caller limited) []
      (kept_from_start (new_caller limited).connection []) are

  given_first : (later : List Given)
      × (all_given (new_caller limited) steps ++ later
      ≡ map given_for (events (line_limit limited) (input_of steps)))
  given_first =
      (map given_for (events (line_limit limited) (run.rest ++ after.bytes)), run.in_order)

module _ {limit : Option ℕ} (now : Caller) (area dropped : Bytes)
    (kept_so : IsKept limit now dropped) where
  uses_none : (left : Left) → NextLeft (caller_call now area) left → left.line.used ≡ 0
      → gives_none left.result ≡ true
  uses_none _ (invalid not_valid) used = absurd (false≢true (sym not_valid ∙ kept_so.valid))
  uses_none _ (gave first room) used = absurd (omega (arith, used, first.ends.ends))
  uses_none _ _ used = refl

  asks_at_the_end : (left : Left) → NextLeft (caller_call now area) left
      → left.result ≡ status_number More → Lacks LF (dropped ++ now.bytes)
  asks_at_the_end _ (asks n ok found) is =
      (subst (Finds (codec_of now.connection) dropped now.bytes
      (next_codec (caller_call now area))) found
      (found_now now dropped kept_so area)).unended
  asks_at_the_end _ (gave first room) is = absurd ((gives_some _ first.some).0 is)
  asks_at_the_end _ _ is = absurd (omega (arith, is))

-- the law
pub returns : goal.returns
returns c = record {
  first = λ limit steps after are. given_first limit after steps are;
  all = λ limit steps after area left are leaves more.
      let before = run limit after steps are in
      let none = events-incomplete (line_limit limit) (before.rest ++ after.bytes)
      (asks_at_the_end after area before.rest before.rest_kept left
      (left_so (caller_call after area) left leaves) more) in
      let given = all_given (new_caller limit) steps in
      sym (append-nil given) ∙ ap (λ later. given ++ map given_for later) (sym none)
      ∙ before.in_order;
  nothing_used = λ limit steps after area left are leaves used.
      let before = run limit after steps are in
      uses_none after area before.rest before.rest_kept left
      (left_so (caller_call after area) left leaves) used;
}
