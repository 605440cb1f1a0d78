-- The first line of the pending bytes, as a decoder keeps it.
use Rattle.std.proofs.Common.{◌≡◌, ℕ, ◌+◌, ◌-◌, ◌≤◌, true, false, [], ◌++◌, length, take, drop, Option, Some, None, Ok, refl, sym, ap, subst, ◌∙◌, arith, append_assoc, length-drop}
use Rattle.std.specs.Prelude.{if◌then◌else◌}
use Rattle.std.proofs.lemmas.Bool.{false≢true}
use Rattle.std.proofs.lemmas.List.{append_cancel_right, drop-drop, take-append-drop}
use Rattle.unftp_control_defs.specs.Bytes.{Bytes}
use Rattle.unftp_control_defs.specs.Events.{Refused, event_for, event_of, exceeds, line_too_long}
use Rattle.unftp_control_defs.specs.Lines.{IsLine, lines_of}
use Rattle.unftp_control_defs.specs.Outcome.{outcome}
use Rattle.unftp_control_defs.proofs.LineLemmas.{lines_of-incomplete}
use Rattle.unftp_control_codecs.specs.Codec.{Codec}
use Rattle.unftp_control_codecs.specs.Finder.{ComparedAfter, Finder, GoesOnAfter, HasCompared, after_found, codec_of}
use Rattle.unftp_control_codecs.specs.FirstLine.{IsDropped, first_line, goes_on, kept_length}
use Rattle.unftp_control_codecs.specs.Memory.{MayTakeMemory}
use Rattle.unftp_control_codecs.specs.declared.FirstLine.{FirstLine}
use Rattle.unftp_control_codecs.specs.declared.FirstLine.TheVariants as codec
use Rattle.unftp_control_codecs.proofs.CallLemmas.{goes_on_keeps}
use Rattle.unftp_control_codecs.proofs.FirstLineLemmas.{Counts, Finds, FindsNone, counts, finds}
use Rattle.unftp_control_serve.specs.ClientLines.{after_front_line, first_client_line, front_line, unless_too_long}
use Rattle.unftp_control_serve.specs.Decoder.{FindsNoLine, IsDecoder, IsFirst, IsSeenAhead, MayRunOut, Pending, TakesLine, found_as, is_found, line_after, line_end, pending_of, without_line}
use Rattle.unftp_control_serve.specs.EventMeaning.{event_meant, refuses_length}
use Rattle.unftp_control_serve.specs.declared.event.Event.{Event}
use Rattle.unftp_control_serve.specs.declared.decoder.ClientLine.{ClientLine}
use Rattle.unftp_control_serve.specs.declared.decoder.ClientLine.TheVariants.{Complete, TooLong}
use Rattle.unftp_control_serve.specs.declared.decoder.First.{First}
use Rattle.unftp_control_serve.specs.declared.decoder.First.TheVariants as first
use Rattle.unftp_control_serve.proofs.ClientLineLemmas.{BeginsWithLine, HasFirst, after_front_line-is, first_client_line-is, first_line as has_first, front_line-is, may_run_out, no_line}
use Rattle.unftp_control_serve.proofs.EventLineLemmas.{line_after-taken, refuses_length-exceeds}

-- ---- what is known of the first line

-- what is shown of it, and what it is
abbrev pub seen : First → Bytes → Bytes
seen first.Unknown kept = []
seen (first.Line n) kept = take n kept
seen first.TooLong kept = []

abbrev pub kind_of : First → Option ClientLine
kind_of first.Unknown = None
kind_of (first.Line n) = Some Complete
kind_of first.TooLong = Some TooLong

-- the bytes that are kept after it
abbrev pub kept_after : First → Bytes → Bytes
kept_after first.Unknown kept = kept
kept_after (first.Line n) kept = drop n kept
kept_after first.TooLong kept = kept

module _ (finder : Finder) (dropped kept : Bytes) where
  begins-Line : (n : ℕ) → IsFirst finder dropped kept (first.Line n)
      → BeginsWithLine (dropped ++ kept) (take n kept) (drop n kept)
  begins-Line n is = record {
    is_line = is.2;
    whole = ap (λ front. front ++ kept) is.0 ∙ sym (take-append-drop n kept);
  }

  begins-TooLong : IsFirst finder dropped kept first.TooLong
      → BeginsWithLine (dropped ++ kept) dropped kept
  begins-TooLong is = record { is_line = is.0; whole = refl }

  -- it is a line, where it was found, and is shown so
  pub found_is_line : (f : First) → IsFirst finder dropped kept f → is_found f ≡ true
      → IsLine (front_line (dropped ++ kept))
  found_is_line first.Unknown is found = absurd (cc)
  found_is_line (first.Line n) is found =
      subst IsLine (sym (front_line-is (begins-Line n is))) is.2
  found_is_line first.TooLong is found =
      subst IsLine (sym (front_line-is (begins-TooLong is))) is.0

  pub shown-is : (f : First) → IsFirst finder dropped kept f → is_found f ≡ true
      → unless_too_long finder.limit (front_line (dropped ++ kept)) ≡ seen f kept
  shown-is first.Unknown is found = absurd (cc)
  shown-is (first.Line n) is found = rw (front_line-is (begins-Line n is), is.3) refl
  shown-is first.TooLong is found = rw (front_line-is (begins-TooLong is), is.1) refl

  pub seen-is : (f : First) → IsFirst finder dropped kept f
      → (if is_found f then unless_too_long finder.limit (front_line (dropped ++ kept)) else [])
      ≡ seen f kept
  seen-is first.Unknown is = refl
  seen-is (first.Line n) is = shown-is (first.Line n) is refl
  seen-is first.TooLong is = shown-is first.TooLong is refl

  pub kind-is : (f : First) → IsFirst finder dropped kept f → is_found f ≡ true
      → first_client_line finder.limit (lines_of (dropped ++ kept)) ≡ kind_of f
  kind-is first.Unknown is found = absurd (cc)
  kind-is (first.Line n) is found =
      first_client_line-is (begins-Line n is) finder.limit ∙ rw is.3 refl
  kind-is first.TooLong is found =
      first_client_line-is (begins-TooLong is) finder.limit ∙ rw is.1 refl

  pub after-is : (f : First) → IsFirst finder dropped kept f → is_found f ≡ true
      → after_front_line (dropped ++ kept) ≡ kept_after f kept
  after-is first.Unknown is found = absurd (cc)
  after-is (first.Line n) is found = after_front_line-is (begins-Line n is)
  after-is first.TooLong is found = after_front_line-is (begins-TooLong is)

  -- its event
  pub line_event : (n : ℕ) (seen : Bytes) → IsFirst finder dropped kept (first.Line n)
      → seen ≡ take n kept
      → event_of (outcome seen) ≡ event_for finder.limit (front_line (dropped ++ kept))
  line_event n seen is e = rw (e, front_line-is (begins-Line n is), is.3) refl

  pub long_event : IsFirst finder dropped kept first.TooLong
      → Refused line_too_long ≡ event_for finder.limit (front_line (dropped ++ kept))
  long_event is = rw (front_line-is (begins-TooLong is), is.1) refl

  pub line_memory : (n : ℕ) (seen : Bytes) → IsFirst finder dropped kept (first.Line n)
      → seen ≡ take n kept → MayTakeMemory seen → MayRunOut finder.limit (dropped ++ kept)
  line_memory n seen is e may =
      may_run_out finder.limit (dropped ++ kept) (kind-is (first.Line n) is refl)
      (subst MayTakeMemory (e ∙ sym (front_line-is (begins-Line n is))) may)

  -- few bytes after it were compared
  pub few_ahead : (f : First) → HasCompared finder (drop (line_end f) kept)
      → IsFirst finder dropped kept f → is_found f ≡ true
      → IsSeenAhead (length kept - (line_end f + finder.compared))
      (length (after_front_line (dropped ++ kept)))
  few_ahead first.Unknown known is found = absurd (cc)
  few_ahead (first.Line n) known is found =
      let after = ap length (after-is (first.Line n) is found) ∙ length-drop n kept in
      (omega (arith, after), omega (arith, after, is.5, known.within, length-drop n kept))
  few_ahead first.TooLong known is found = let after = ap length (after-is first.TooLong is found) in
      (omega (arith, after), omega (arith, after, is.3, known.within))

  -- it is found again as it was
  pub found_again : (line : Bytes) (buffered held : ℕ) (f : First) → IsFirst finder dropped kept f
      → is_found f ≡ true → pending_of finder f dropped [] kept buffered held
      ≡ found_as (pending_of finder f dropped line kept buffered held) (kind_of f) finder.tests
  found_again line buffered held first.Unknown is found = absurd (cc)
  found_again line buffered held (first.Line n) is found =
      let unscanned : length kept - (n + finder.compared)
      ≡ finder.tests + (length kept - (n + finder.compared)) - finder.tests = omega arith in
      λ i. record {
        bytes = dropped ++ kept;
        kept = length kept;
        limit = finder.limit;
        found = true;
        line = [];
        scanned = finder.tests;
        unscanned = unscanned i;
        buffered = buffered;
        held = held;
      }
  found_again line buffered held first.TooLong is found =
      let after : length kept ≡ length (after_front_line (dropped ++ kept)) =
      sym (ap length (after-is first.TooLong is found)) in
      let unscanned : length kept - (0 + finder.compared)
      ≡ finder.tests + (length kept - (0 + finder.compared)) - finder.tests = omega arith in
      λ i. record {
        bytes = dropped ++ kept;
        kept = after i;
        limit = finder.limit;
        found = true;
        line = [];
        scanned = finder.tests;
        unscanned = unscanned i;
        buffered = buffered;
        held = held;
      }

-- ---- a line that is taken

module _ (finder : Finder) (dropped buf line : Bytes) (start held : ℕ) where
  pub line_taken : (n : ℕ) → IsFirst finder dropped (drop start buf) (first.Line n)
      → pending_of finder first.Unknown dropped (take n (drop (start + n - n) buf))
      (drop (start + n) buf) (length buf) held
      ≡ without_line (pending_of finder (first.Line n) dropped line (drop start buf) (length buf)
      held)
  line_taken n is =
      let kept : Bytes = drop start buf in
      let after : drop (start + n) buf ≡ after_front_line (dropped ++ kept) =
      sym (drop-drop n start buf) ∙ sym (after-is finder dropped kept (first.Line n) is refl) in
      let bytes : dropped ++ drop (start + n) buf ≡ after_front_line (dropped ++ kept) =
      ap (λ dropped. dropped ++ drop (start + n) buf) is.0 ∙ after in
      let took : take n (drop (start + n - n) buf)
      ≡ unless_too_long finder.limit (front_line (dropped ++ kept)) =
      ap (λ n'. take n (drop n' buf)) (omega arith)
      ∙ sym (shown-is finder dropped kept (first.Line n) is refl) in
      let unscanned : length (drop (start + n) buf) - (0 + finder.compared)
      ≡ length kept - (n + finder.compared) = omega (
        arith,
        ap length (sym (drop-drop n start buf)),
        length-drop n kept,
      ) in
      λ i. record {
        bytes = bytes i;
        kept = length (after i);
        limit = finder.limit;
        found = false;
        line = took i;
        scanned = finder.tests;
        unscanned = unscanned i;
        buffered = length buf;
        held = held;
      }

  pub long_taken : IsFirst finder dropped (drop start buf) first.TooLong
      → pending_of finder first.Unknown [] [] (drop start buf) (length buf) held
      ≡ without_line (pending_of finder first.TooLong dropped line (drop start buf) (length buf)
      held)
  long_taken is =
      let kept : Bytes = drop start buf in
      let after : kept ≡ after_front_line (dropped ++ kept) =
      sym (after-is finder dropped kept first.TooLong is refl) in
      let taken : [] ≡ unless_too_long finder.limit (front_line (dropped ++ kept)) =
      sym (shown-is finder dropped kept first.TooLong is refl) in
      λ i. record {
        bytes = after i;
        kept = length (after i);
        limit = finder.limit;
        found = false;
        line = taken i;
        scanned = finder.tests;
        unscanned = length kept - (0 + finder.compared);
        buffered = length buf;
        held = held;
      }

-- a decoder whose first line is taken
pub taken_well : {finder : Finder} {dropped buf : Bytes} {start line held capacity n : ℕ}
    → IsDecoder finder (first.Line n) dropped buf start line held capacity
    → IsDecoder finder first.Unknown dropped buf (start + n) n held capacity
taken_well {finder} {dropped} {buf} {start} {n = n} well =
    let is = well.first_is in record {
      start_within = omega (arith, is.1, length-drop start buf, well.start_within);
      line_within = omega arith;
      compared_so_far = subst (HasCompared finder) (drop-drop n start buf) well.compared_so_far;
      first_is = rw is.0 (tt, (λ on. absurd (false≢true (sym is.4 ∙ on))), (λ off. refl));
      limited = well.limited;
      no_more = well.no_more;
      room = well.room;
    }

-- one of a line that is too long
pub long_well : {finder : Finder} {dropped buf : Bytes} {start line held capacity : ℕ}
    → IsDecoder finder first.TooLong dropped buf start line held capacity
    → IsDecoder finder first.Unknown [] buf start 0 held capacity
long_well well = record {
  start_within = well.start_within;
  line_within = omega arith;
  compared_so_far = well.compared_so_far;
  first_is = (tt, (λ on. absurd (false≢true (sym well.first_is.2 ∙ on))), (λ off. refl));
  limited = well.limited;
  no_more = well.no_more;
  room = well.room;
}

-- ---- the search for it

pub unknown : (f : First) → is_found f ≡ false → f ≡ first.Unknown
unknown first.Unknown e = refl
unknown (first.Line n) e = absurd (cc)
unknown first.TooLong e = absurd (cc)

pub fewer_left : (n start : ℕ) (buf : Bytes) {left : Bytes} → left ≡ drop n (drop start buf)
    → length left ≤ length buf
fewer_left n start buf is = omega (
  arith,
  ap length is,
  length-drop n (drop start buf),
  length-drop start buf,
)

-- all bytes are still there
pub all_are : (n : ℕ) (dropped pending : Bytes) {dropped' rest : Bytes}
    → rest ≡ drop n pending → dropped' ≡ dropped ++ take n pending
    → dropped' ++ rest ≡ dropped ++ pending
all_are n dropped pending rest_is dropped_is = rw (dropped_is, rest_is)
    (append_assoc dropped (take n pending) (drop n pending)
    ∙ ap (λ bytes. dropped ++ bytes) (take-append-drop n pending))

-- A finder has found this, and is then the new one.
pub record Searched (old : Finder) (bytes : Bytes) (found : FirstLine) (new : Finder) : Type 0 where
  pub codec : codec_of new ≡ record (goes_on (codec_of old) bytes) { place = 0; tests = new.tests }
  pub goes_on : GoesOnAfter (after_found found) old bytes new
  pub ahead : ComparedAfter found bytes new.compared

-- It searches the bytes that are kept.
module _ {old : Finder} {f : First} {dropped buf bytes : Bytes} {start line held capacity : ℕ}
    (well : IsDecoder old f dropped buf start line held capacity) (none : is_found f ≡ false)
    (bytes_are : bytes ≡ drop start buf) where
  abbrev kept : Bytes
  kept = drop start buf

  abbrev before : Pending
  before = pending_of old f dropped (take line (drop (start - line) buf)) kept (length buf) held

  abbrev first_is : Option ClientLine
  first_is = first_client_line old.limit (lines_of (dropped ++ kept))

  compared_so_far : HasCompared old kept
  compared_so_far =
      subst (λ f. HasCompared old (drop (line_end f) kept)) (unknown f none) well.compared_so_far

  abbrev unscanned_before : ℕ
  unscanned_before = length kept - (line_end f + old.compared)

  abbrev next : Codec
  next = goes_on (codec_of old) kept

  found_in : (found : FirstLine) → found ≡ first_line (codec_of old) bytes
      → Finds (codec_of old) dropped kept next found × Counts (codec_of old) kept next found
  found_in found is = rw (is, bytes_are) (
    finds (codec_of old) dropped kept (omega arith, tt)
        (subst (IsFirst old dropped kept) (unknown f none) well.first_is),
    counts (codec_of old) kept (omega arith),
  )

  -- this was found
  module _ {new : Finder} {found : FirstLine} (is_searched : Searched old bytes found new) where
    searched : Searched old kept found new
    searched = subst (λ bytes. Searched old bytes found new) bytes_are is_searched

    same_limit : new.limit ≡ old.limit
    same_limit = ap (λ (codec : Codec). codec.limit) searched.codec
        ∙ (goes_on_keeps (codec_of old) kept).limit

    -- so many are not scanned yet
    left_of : after_found found ≤ length kept → length kept - (after_found found + new.compared)
        ≡ old.tests + unscanned_before - new.tests
    left_of within = omega (
      arith,
      searched.goes_on.once,
      within,
      searched.goes_on.rest.within,
      length-drop (after_found found) kept,
      compared_so_far.within,
      ap line_end (unknown f none),
    )

  -- no line is complete
  pub none_first : (n : ℕ) → codec.Incomplete n ≡ first_line (codec_of old) bytes → first_is ≡ None
  none_first n is = ap (first_client_line old.limit)
      (lines_of-incomplete (dropped ++ kept) (found_in (codec.Incomplete n) is).0.unended)

  -- so many bytes leave the buffer, and are dropped
  module _ (n : ℕ) (dropped' buf' : Bytes) (start' : ℕ) (within : start' ≤ length buf')
      (fewer : length buf' ≤ length buf) (rest : drop start' buf' ≡ drop n kept)
      (dropped_are : dropped' ≡ dropped ++ take n kept) where
    same_bytes : dropped' ++ drop start' buf' ≡ dropped ++ kept
    same_bytes = all_are n dropped kept rest dropped_are

    abbrev left : ℕ
    left = length (drop start' buf')

    -- no line is complete
    module _ {new : Finder} (is : codec.Incomplete n ≡ first_line (codec_of old) bytes)
        (did : Searched old bytes (codec.Incomplete n) new) where
      none_found : FindsNone old.limit dropped kept next n
      none_found = (found_in (codec.Incomplete n) is).0

      pub none_then : {capacity' : ℕ} → capacity' ≡ capacity
          → IsDecoder new f dropped' buf' start' 0 held capacity'
      none_then room = record {
        start_within = within;
        line_within = omega arith;
        compared_so_far = rw (unknown f none, rest) (searched did).goes_on.rest;
        first_is = rw (unknown f none, dropped_are)
            (subst (λ codec. IsDropped codec (dropped ++ take n kept)) (sym (searched did).codec)
            none_found.dropped_well);
        limited = rw (same_limit did) well.limited;
        no_more = omega (arith, fewer, well.no_more);
        room = rw room well.room;
      }

      pub none_seen : start' ≡ 0
          → pending_of new f dropped' [] (drop start' buf') (length buf') held
          ≡ found_as before None new.tests
      none_seen at_start =
          let kept_now : left ≡ kept_length old.limit (dropped ++ kept) =
          ap length rest ∙ none_found.kept in
          let place_now : left - (line_end f + new.compared) ≡ 0 =
          omega (arith, ap length rest, length-drop n kept, (searched did).ahead) in
          let held_now : length buf' ≡ kept_length old.limit (dropped ++ kept) =
          (rw at_start refl) ∙ kept_now in
          λ i. record {
            bytes = same_bytes i;
            kept = kept_now i;
            limit = same_limit did i;
            found = none i;
            line = [];
            scanned = new.tests;
            unscanned = place_now i;
            buffered = held_now i;
            held = held;
          }

    -- the line is too long
    module _ {new : Finder} (is : codec.TooLong n ≡ first_line (codec_of old) bytes)
        (did : Searched old bytes (codec.TooLong n) new) where
      pub long_then : {capacity' : ℕ} → capacity' ≡ capacity
          → IsDecoder new first.TooLong dropped' buf' start' 0 held capacity'
      long_then room =
          let found = found_in (codec.TooLong n) is in
          let takes = found.0 in
          let same : takes.line ≡ dropped' = append_cancel_right takes.line dropped' (drop n kept)
          (sym takes.whole ∙ sym same_bytes ∙ ap (λ bytes. dropped' ++ bytes) rest) in
          let long : exceeds old.limit (length takes.line) ≡ true =
          sym (refuses_length-exceeds old.limit takes.line)
          ∙ ap refuses_length (sym takes.meaning) in record {
            start_within = within;
            line_within = omega arith;
            compared_so_far = subst (HasCompared new) (sym rest) (searched did).goes_on.rest;
            first_is = (
              subst IsLine same takes.is_line,
              (λ i. exceeds (same_limit did i) (length (sym same i))) ∙ long,
              ap (λ (codec : Codec). codec.skipping) (searched did).codec ∙ found.1.2,
              (searched did).ahead,
            );
            limited = rw (same_limit did) well.limited;
            no_more = omega (arith, fewer, well.no_more);
            room = rw room well.room;
          }

      pub long_first : first_is ≡ Some TooLong
      long_first =
          let there = kind-is new dropped' (drop start' buf') first.TooLong (long_then refl).first_is
          refl in (λ i. first_client_line (sym (same_limit did) i) (lines_of (sym same_bytes i))) ∙ there

      pub long_seen : length buf' ≡ length buf
          → pending_of new first.TooLong dropped' [] (drop start' buf') (length buf') held
          ≡ found_as before (Some TooLong) new.tests
      long_seen same_held =
          let after : drop start' buf' ≡ after_front_line (dropped ++ kept) =
          sym (ap after_front_line (sym same_bytes)
          ∙ after-is new dropped' (drop start' buf') first.TooLong (long_then refl).first_is refl) in
          let unscanned : left - (0 + new.compared) ≡ old.tests + unscanned_before - new.tests =
          omega (
            arith,
            ap length rest,
            length-drop n kept,
            left_of did (found_in (codec.TooLong n) is).1.0.within,
          ) in
          λ i. record {
            bytes = same_bytes i;
            kept = length (after i);
            limit = same_limit did i;
            found = true;
            line = [];
            scanned = new.tests;
            unscanned = unscanned i;
            buffered = same_held i;
            held = held;
          }

  -- the line is within the limit, and stays
  module _ {new : Finder} (n : ℕ) (is : codec.Complete n ≡ first_line (codec_of old) bytes)
      (did : Searched old bytes (codec.Complete n) new) where
    abbrev found_line : Finds (codec_of old) dropped kept next (codec.Complete n)
        × Counts (codec_of old) kept next (codec.Complete n)
    found_line = found_in (codec.Complete n) is

    pub line_then : IsDecoder new (first.Line n) dropped buf start 0 held capacity
    line_then = record {
      start_within = well.start_within;
      line_within = omega arith;
      compared_so_far = (searched did).goes_on.rest;
      first_is = (
        found_line.0.none_dropped,
        found_line.1.0.within,
        found_line.0.is_line,
        ap (λ limit. exceeds limit (length (take n kept))) (same_limit did) ∙ found_line.0.short,
        ap (λ (codec : Codec). codec.skipping) (searched did).codec ∙ found_line.0.unskipped,
        (searched did).ahead,
      );
      limited = rw (same_limit did) well.limited;
      no_more = well.no_more;
      room = well.room;
    }

    pub line_first : first_is ≡ Some Complete
    line_first =
        ap (λ limit. first_client_line limit (lines_of (dropped ++ kept))) (sym (same_limit did))
        ∙ kind-is new dropped kept (first.Line n) line_then.first_is refl

    pub line_seen : pending_of new (first.Line n) dropped [] kept (length buf) held
        ≡ found_as before (Some Complete) new.tests
    line_seen =
        let unscanned : length kept - (n + new.compared)
        ≡ old.tests + unscanned_before - new.tests = left_of did found_line.1.0.within in
        λ i. record {
          bytes = dropped ++ kept;
          kept = length kept;
          limit = same_limit did i;
          found = true;
          line = [];
          scanned = new.tests;
          unscanned = unscanned i;
          buffered = length buf;
          held = held;
        }

-- ---- the first line, where it was looked for

module _ (before middle : Pending) {first : Option ClientLine}
    (first_is : first ≡ first_client_line before.limit (lines_of before.bytes))
    (found : middle ≡ found_as before first middle.scanned) where
  pub none_there : first ≡ None → FindsNoLine before middle
  none_there none =
      let is : middle ≡ found_as before None middle.scanned = found
      ∙ ap (λ first. found_as before first middle.scanned) none in record {
        unended = no_line before.limit before.bytes (sym first_is ∙ none);
        same = ap (λ (p : Pending). p.bytes) is;
        all_scanned = ap (λ (p : Pending). p.unscanned) is;
        kept = ap (λ (p : Pending). p.kept) is;
      }

  -- and where it is taken with its event
  module _ (after : Pending) {kind : ClientLine} (there : first ≡ Some kind)
      (taken : after ≡ without_line middle) (event : Event)
      (means : event_meant event ≡ event_for middle.limit (front_line middle.bytes))
      (ahead : IsSeenAhead middle.unscanned (length (after_front_line middle.bytes))) where
    same_event : event_for before.limit (front_line before.bytes) ≡ event_meant event
    same_event = (λ i. event_for (sym found i).limit (front_line (sym found i).bytes)) ∙ sym means

    is : after ≡ without_line (found_as before first middle.scanned)
    is = taken ∙ ap without_line found

    begins : HasFirst before.limit before.bytes kind
    begins = has_first before.limit before.bytes kind (sym first_is ∙ there)

    abbrev line : Bytes
    line = front_line before.bytes

    pub first_taken : TakesLine before (event_meant event) after
    first_taken = record {
      takes = record {
        line = line;
        is_line = begins.is_line;
        whole = begins.whole ∙ ap (λ bytes. line ++ bytes) (sym (ap (λ (p : Pending). p.bytes) is));
        meaning = sym same_event;
      };
      all_kept = ap (λ (p : Pending). p.kept) is ∙ sym (ap (λ (p : Pending). length p.bytes) is);
      few_scanned = rw taken ahead;
    }

    pub line_taken_is : (E : Type 0)
        → after.line ≡ line_after {E = E} before (Ok (Some event)) after
    unfolding first_taken
    line_taken_is E = ap (λ (p : Pending). p.line) is
        ∙ ap (λ long. if long then [] else line)
        (sym (refuses_length-exceeds before.limit line) ∙ ap refuses_length same_event)
        ∙ sym (line_after-taken E event first_taken)
