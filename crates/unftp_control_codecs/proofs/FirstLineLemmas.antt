-- What a codec finds is the first line of the bytes that it dropped and those that it keeps.
use Rattle.std.proofs.Common.{◌≡◌, ℕ, ◌+◌, ◌-◌, ◌≤◌, Bool, true, false, [], ◌∷◌, ◌++◌, ◌⊎◌, inl, inr, length, take, drop, Option, Some, None, refl, sym, ap, ◌∙◌, arith, append_assoc, length-append}
use Rattle.std.specs.Prelude.{if◌then◌else◌, ◌||◌}
use Rattle.std.proofs.lemmas.List.{drop_all, length-take-le, take-append-drop}
use Rattle.std.proofs.Math.Seq.{take-length}
use Rattle.unftp_control_defs.specs.Bytes.{Bytes, LF, Lacks}
use Rattle.unftp_control_defs.specs.Events.{FtpEvent, Refused, event_for, event_of, exceeds, line_too_long}
use Rattle.unftp_control_defs.specs.Lines.{IsLine}
use Rattle.unftp_control_defs.specs.Outcome.{outcome}
use Rattle.unftp_control_defs.specs.TakingSteps.{TakesEvent}
use Rattle.unftp_control_defs.proofs.LackLemmas.{Lacks-append}
use Rattle.unftp_control_codecs.specs.declared.FirstLine.{FirstLine}
use Rattle.unftp_control_codecs.specs.declared.FirstLine.TheVariants.{Incomplete, TooLong, Complete}
use Rattle.unftp_control_codecs.specs.Codec.{Codec, is_too_long}
use Rattle.unftp_control_codecs.specs.FirstLine.{IsDropped, IsScannedWithin, after_line, after_none, first_line, first_line_by, goes_on, goes_on_by, kept_length}
use Rattle.unftp_control_codecs.specs.LineFeed.{line_feed_from}
use Rattle.unftp_control_codecs.proofs.LineFeedLemmas.{EndsAt, FindsFeed, finds_feed, lf_at, longer, unskipped}

-- No line is complete. These bytes are dropped, and all those that are kept were scanned.
pub record FindsNone (limit : Option ℕ) (dropped bytes : Bytes) (next : Codec) (n : ℕ)
    : Type 0 where
  pub unended : Lacks LF (dropped ++ bytes)
  pub kept : length (drop n bytes) ≡ kept_length limit (dropped ++ bytes)
  pub all_scanned : next.place ≡ length (drop n bytes)
  pub same_limit : next.limit ≡ limit
  pub scanned_within : IsScannedWithin next (drop n bytes)
  pub dropped_well : IsDropped next (dropped ++ take n bytes)

-- The first line is within the limit: nothing of it was dropped, and the codec stays before it.
pub record FindsLine (codec : Codec) (dropped bytes : Bytes) (next : Codec) (n : ℕ)
    : Type 0 where
  pub takes : TakesEvent codec.limit (dropped ++ bytes) (event_of (outcome (take n bytes)))
      (drop n bytes)
  pub none_dropped : dropped ≡ []
  pub is_line : IsLine (take n bytes)
  pub short : exceeds codec.limit (length (take n bytes)) ≡ false
  pub same_place : next.place ≡ codec.place
  pub unskipped : next.skipping ≡ false

-- what is found in bytes, after those that were dropped, by a codec that is then the next
abbrev pub Finds : Codec → Bytes → Bytes → Codec → FirstLine → Type 0
Finds codec dropped bytes next (Incomplete n) = FindsNone codec.limit dropped bytes next n
Finds codec dropped bytes next (TooLong n) =
    TakesEvent codec.limit (dropped ++ bytes) (Refused line_too_long) (drop n bytes)
Finds codec dropped bytes next (Complete n) = FindsLine codec dropped bytes next n

module _ (codec : Codec) (dropped bytes : Bytes) (within : IsScannedWithin codec bytes)
    (lost : IsDropped codec dropped) where
  all_long : (n m : ℕ) → is_too_long codec n ≡ true → n ≤ m → length dropped + 1 ≤ m
      → exceeds codec.limit m ≡ true
  all_long n m long more some = by_skipping codec.skipping refl long
    where
      by_skipping : (skipping : Bool) → codec.skipping ≡ skipping
          → (skipping || exceeds codec.limit n) ≡ true → exceeds codec.limit m ≡ true
      by_skipping true on h = longer codec.limit (length dropped + 1) m (lost.1 on) some
      by_skipping false off h = longer codec.limit n m h more

  record IsShort (n : ℕ) : Type 0 where
    off : codec.skipping ≡ false
    none : dropped ≡ []
    within_limit : exceeds codec.limit n ≡ false

  all_short : (n : ℕ) → is_too_long codec n ≡ false → IsShort n
  all_short n short =
      let parts = unskipped codec.skipping (exceeds codec.limit n) short in
      record { off = parts.0; none = lost.2 parts.0; within_limit = parts.1 }

  abbrev all_bytes : Bytes
  all_bytes = dropped ++ bytes

  -- no line is complete
  module _ (unended : Lacks LF bytes) where
    finds_none : (long : Bool) → is_too_long codec (length bytes + 1) ≡ long
        → FindsNone codec.limit dropped bytes
        (after_none codec (length bytes) long)
        (if long then length bytes else 0)
    finds_none true e =
        let none_left : drop (length bytes) bytes ≡ [] = drop_all (length bytes) bytes (omega arith) in
        let long : exceeds codec.limit (length all_bytes + 1) ≡ true =
        all_long (length bytes + 1) (length all_bytes + 1) e
        (omega (arith, length-append dropped bytes)) (omega (arith, length-append dropped bytes)) in
        record {
          unended = Lacks-append LF dropped bytes lost.0 unended;
          kept = rw (none_left, long) refl;
          all_scanned = rw none_left refl;
          same_limit = refl;
          scanned_within = (omega arith, tt);
          dropped_well =
              rw take-length
              (Lacks-append LF dropped bytes lost.0 unended, (λ on. long), (λ off. absurd (cc)));
        }
    finds_none false e =
        let short = all_short (length bytes + 1) e in
        record {
          unended = Lacks-append LF dropped bytes lost.0 unended;
          kept = rw (short.none, short.within_limit) refl;
          all_scanned = refl;
          same_limit = refl;
          scanned_within = (omega arith, rw take-length unended);
          dropped_well = rw short.none (tt, (λ on. absurd (cc)), (λ off. refl));
        }

  -- a line ends at k
  module _ (k : ℕ) (at_k : EndsAt bytes codec.place k) where
    abbrev line : Bytes
    line = take (k + 1) bytes

    line_length : length line ≡ k + 1
    line_length = length-take-le (k + 1) bytes (omega (arith, at_k.high))

    ends : IsLine line
    ends = record {
      body = take k bytes;
      whole = lf_at bytes k at_k.high at_k.at;
      one_end = at_k.before within.1;
    }

    takes : {event : FtpEvent} → event_for codec.limit (dropped ++ line) ≡ event
        → TakesEvent codec.limit all_bytes event (drop (k + 1) bytes)
    takes {event} is = record {
      line = dropped ++ line;
      is_line = record {
        body = dropped ++ ends.body;
        whole = ap (λ z. dropped ++ z) ends.whole ∙ sym (append_assoc dropped ends.body (LF ∷ []));
        one_end = Lacks-append LF dropped ends.body lost.0 ends.one_end;
      };
      whole = ap (λ z. dropped ++ z) (sym (take-append-drop (k + 1) bytes))
          ∙ sym (append_assoc dropped line (drop (k + 1) bytes));
      meaning = sym is;
    }

    finds_line : (long : Bool) → is_too_long codec (k + 1) ≡ long
        → Finds codec dropped bytes (after_line codec k long)
        (if long then TooLong (k + 1) else Complete (k + 1))
    finds_line true e =
        let long : exceeds codec.limit (length (dropped ++ line)) ≡ true =
        all_long (k + 1) (length (dropped ++ line)) e
        (omega (arith, line_length, length-append dropped line))
        (omega (arith, line_length, length-append dropped line)) in
        takes (rw long refl)
    finds_line false e =
        let short = all_short (k + 1) e in
        record {
          takes = takes (rw (short.none, line_length, short.within_limit) refl);
          none_dropped = short.none;
          is_line = ends;
          short = rw line_length short.within_limit;
          same_place = refl;
          unskipped = short.off;
        }

  by_feed : (o : Option ℕ) → FindsFeed bytes codec.place o
      → Finds codec dropped bytes (goes_on_by codec (length bytes) o)
      (first_line_by codec (length bytes) o)
  by_feed None none =
      finds_none (none within.1) (is_too_long codec (length bytes + 1)) refl
  by_feed (Some k) at_k = finds_line k at_k (is_too_long codec (k + 1)) refl

  pub finds : Finds codec dropped bytes (goes_on codec bytes) (first_line codec bytes)
  finds = by_feed (line_feed_from bytes codec.place) (finds_feed bytes codec.place)

-- What is so of what is found, whatever was scanned before: the bytes that were scanned now are
-- those that are taken or dropped, and those that the scan offset moves by.
pub record CountsNone (codec : Codec) (bytes : Bytes) (next : Codec) (n : ℕ) : Type 0 where
  pub counted : next.tests + codec.place ≡ codec.tests + (next.place + n)
  pub all : next.place + n ≡ length bytes
  pub at_start : next.skipping ≡ true → next.place ≡ 0
  pub kept_short : (n ≡ length bytes) ⊎ (is_too_long codec (length bytes + 1) ≡ false)

pub record CountsLine (codec : Codec) (bytes : Bytes) (next : Codec) (n : ℕ) : Type 0 where
  pub counted : next.tests + codec.place ≡ codec.tests + n
  pub within : n ≤ length bytes
  pub line_feed : ℕ
  pub ends : n ≡ line_feed + 1
  pub at : line_feed_from bytes codec.place ≡ Some line_feed

abbrev pub Counts : Codec → Bytes → Codec → FirstLine → Type 0
Counts codec bytes next (Incomplete n) = CountsNone codec bytes next n
Counts codec bytes next (TooLong n) = CountsLine codec bytes next n × (next.place ≡ 0)
    × (next.skipping ≡ false)
Counts codec bytes next (Complete n) = CountsLine codec bytes next n
    × (is_too_long codec n ≡ false)

module _ (codec : Codec) (bytes : Bytes) (within : codec.place ≤ length bytes) where
  counts_none : (long : Bool) → is_too_long codec (length bytes + 1) ≡ long
      → CountsNone codec bytes
      (after_none codec (length bytes) long)
      (if long then length bytes else 0)
  counts_none true e = record {
    counted = omega (arith, within);
    all = omega arith;
    at_start = λ on. refl;
    kept_short = inl refl;
  }
  counts_none false e = record {
    counted = omega (arith, within);
    all = omega arith;
    at_start = λ on. absurd (cc);
    kept_short = inr e;
  }

  module _ (k : ℕ) (is : line_feed_from bytes codec.place ≡ Some k)
      (at_k : EndsAt bytes codec.place k) where
    counts_line : (long : Bool) → CountsLine codec bytes (after_line codec k long) (k + 1)
    counts_line long = record {
      counted = omega (arith, at_k.low);
      within = omega (arith, at_k.high);
      line_feed = k;
      ends = refl;
      at = is;
    }

    counts_by : (long : Bool) → is_too_long codec (k + 1) ≡ long
        → Counts codec bytes (after_line codec k long)
        (if long then TooLong (k + 1) else Complete (k + 1))
    counts_by true e = (counts_line true, refl, refl)
    counts_by false e = (counts_line false, e)

  counts_found : (o : Option ℕ) → line_feed_from bytes codec.place ≡ o
      → FindsFeed bytes codec.place o
      → Counts codec bytes (goes_on_by codec (length bytes) o) (first_line_by codec (length bytes) o)
  counts_found None e none = counts_none (is_too_long codec (length bytes + 1)) refl
  counts_found (Some k) e at_k = counts_by k e at_k (is_too_long codec (k + 1)) refl

  pub counts : Counts codec bytes (goes_on codec bytes) (first_line codec bytes)
  counts = counts_found (line_feed_from bytes codec.place) refl (finds_feed bytes codec.place)

-- and no call scans more bytes than there are after the scan offset
pub scans_few : (codec : Codec) (bytes : Bytes)
    → (goes_on codec bytes).tests ≤ codec.tests + (length bytes - codec.place)
scans_few codec bytes =
    by_feed (line_feed_from bytes codec.place) (finds_feed bytes codec.place)
  where
    by_feed : (o : Option ℕ) → FindsFeed bytes codec.place o
        → (goes_on_by codec (length bytes) o).tests ≤ codec.tests + (length bytes - codec.place)
    by_feed None none = omega arith
    by_feed (Some k) at_k = omega (arith, at_k.high)
