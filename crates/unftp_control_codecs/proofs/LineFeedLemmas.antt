-- What a search for a line feed finds.
use Rattle.std.proofs.Common.{◌≡◌, ◌≢◌, ℕ, zero, suc, ◌+◌, ◌-◌, ◌*◌, ◌%◌, ◌^◌, ◌<◌, ◌≤◌, Bool, true, false, not, cond, eqb, [], ◌∷◌, ◌++◌, ◌⊎◌, length, map, replicate, take, drop, Option, Some, None, refl, sym, ap, ◌∙◌, inl, inr, arith, eq-eqb, ne_eqb}
use Rattle.std.specs.Prelude.{if◌then◌else◌, slice_index, position, option_map, ◌||◌}
use Rattle.std.specs.List.{prefix_len}
use Rattle.std.specs.Simd.Lanes.{chunk, mask_l, top, zip2}
use lib.Count.{count_trailing_zeros}
use Rattle.std.proofs.lemmas.Bool.{cases_eq, lt-ltb, ltb-true}
use Rattle.std.proofs.lemmas.Grind.{common_steps}
use Rattle.std.proofs.lemmas.List.{length-drop, take_all, take_more}
use Rattle.std.proofs.lemmas.Simd.{length-chunk, none_from_empty_mask, run_in_chunk_fails, run_in_chunk_stops, trailing_mask_l}
use Rattle.std.proofs.Math.Seq.{drop-cons}
use Rattle.unftp_control_defs.specs.Bytes.{Bytes, LF, Lacks}
use Rattle.unftp_control_defs.specs.Events.{exceeds}
use Rattle.unftp_control_codecs.specs.LineFeed.{is_line_feed, line_feed_from, line_feeds}
use Rattle.unftp_control_codecs.proofs.LaneLemmas.{found_is}

position_cons : (b : ℕ) (bytes : Bytes) → position is_line_feed (b ∷ bytes)
    ≡ (if is_line_feed b then Some 0 else option_map suc (position is_line_feed bytes))
position_cons b bytes = grind (arith, common_steps)

-- after one more byte
shifted : (from : ℕ) (o : Option ℕ) → option_map (λ i. suc from + i) o
    ≡ option_map suc (option_map (λ i. from + i) o)
shifted from None = refl
shifted from (Some i) = ap (λ k. Some k) (omega arith)

passed : (from : ℕ) (o : Option ℕ) → option_map (λ i. from + i) (option_map suc o)
    ≡ option_map (λ i. suc from + i) o
passed from None = refl
passed from (Some i) = ap (λ k. Some k) (omega arith)

-- the first line feed at or after a place is at k
pub record EndsAt (bytes : Bytes) (from k : ℕ) : Type 0 where
  pub low : from ≤ k
  pub high : k < length bytes
  pub at : slice_index bytes k ≡ LF
  pub before : Lacks LF (take from bytes) → Lacks LF (take k bytes)

abbrev pub FindsFeed : Bytes → ℕ → Option ℕ → Type 0
FindsFeed bytes from None = Lacks LF (take from bytes) → Lacks LF bytes
FindsFeed bytes from (Some k) = EndsAt bytes from k

-- the same with a byte before them that is none
with_byte : (b : ℕ) (bytes : Bytes) (from place : ℕ) → place ≤ suc from
    → (Lacks LF (take place (b ∷ bytes)) → (b ≢ LF) × Lacks LF (take from bytes))
    → (o : Option ℕ) → FindsFeed bytes from o → FindsFeed (b ∷ bytes) place (option_map suc o)
with_byte b bytes from place le split None none = λ h. let parts = split h in
    (parts.0, none parts.1)
with_byte b bytes from place le split (Some k) ends = record {
  low = omega (arith, le, ends.low);
  high = omega (arith, ends.high);
  at = ends.at;
  before = λ h. let parts = split h in (parts.0, ends.before parts.1);
}

pub finds_feed : (bytes : Bytes) (from : ℕ) → FindsFeed bytes from (line_feed_from bytes from)
finds_feed [] zero = λ h. tt
finds_feed [] (suc from) = λ h. tt
finds_feed (b ∷ bytes) (suc from) =
    rw (shifted from (position is_line_feed (drop from bytes)))
    (with_byte b bytes from (suc from) (omega arith) (λ h. h) (line_feed_from bytes from)
    (finds_feed bytes from))
finds_feed (b ∷ bytes) zero = by_byte (cases_eq b LF) (finds_feed bytes 0)
  where
    by_byte : (b ≡ LF) ⊎ (b ≢ LF) → FindsFeed bytes 0 (line_feed_from bytes 0)
        → FindsFeed (b ∷ bytes) 0 (line_feed_from (b ∷ bytes) 0)
    by_byte (inl e) found = rw (position_cons b bytes, eq-eqb b LF e)
        (record { low = omega arith; high = omega arith; at = e; before = λ h. tt })
    by_byte (inr ne) found =
        let o = position is_line_feed bytes in
        rw (position_cons b bytes, ne_eqb b LF ne, passed 0 o ∙ shifted 0 o)
        (with_byte b bytes 0 0 (omega arith) (λ h. (ne, tt)) (line_feed_from bytes 0) found)

pub lf_at : (bytes : Bytes) (k : ℕ) → k < length bytes → slice_index bytes k ≡ LF
    → take (k + 1) bytes ≡ take k bytes ++ LF ∷ []
lf_at bytes k within is = take_more bytes k 0 within ∙ ap (λ b. take k bytes ++ b ∷ []) is

-- ---- a search that goes block by block

module _ (bytes : Bytes) (from : ℕ) (within : from < length bytes) where
  step : (is : Bool) → is_line_feed (slice_index bytes from) ≡ is → line_feed_from bytes from
      ≡ (if is then Some from else line_feed_from bytes (from + 1))
  step true e = rw (drop-cons bytes from 0 within, position_cons, e) (ap (λ k. Some k) (omega arith))
  step false e =
      let next : suc from ≡ from + 1 = omega arith in
      rw (drop-cons bytes from 0 within, position_cons, e, sym next)
      (passed from (position is_line_feed (drop (suc from) bytes)))

-- whether a search goes on after a byte
abbrev passes : ℕ → Bool
passes byte = not (is_line_feed byte)

first_lane : (is : Bool) (mask before n : ℕ) → 0 < cond is 1 0 + 2 * mask
    → (0 < mask → before < n) → cond (not is) (1 + before) 0 < suc n
first_lane true mask before n some later = omega arith
first_lane false mask before n some later = omega (arith, later (omega (arith, some)))

-- where a bit is set, not all bytes come before a line feed
some_stops : (bytes : Bytes) → 0 < mask_l (map is_line_feed bytes)
    → prefix_len passes bytes < length bytes
some_stops [] some = absurd (omega (arith, some))
some_stops (b ∷ bytes) some = first_lane (is_line_feed b) (mask_l (map is_line_feed bytes))
    (prefix_len passes bytes) (length bytes) some (some_stops bytes)

module _ (bytes : Bytes) (from : ℕ) where
  passed_over : (n : ℕ) → from + n ≤ length bytes
      → ((k : ℕ) → from ≤ k → k < from + n → is_line_feed (slice_index bytes k) ≡ false)
      → line_feed_from bytes from ≡ line_feed_from bytes (from + n)
  passed_over zero room none = ap (line_feed_from bytes) (omega arith)
  passed_over (suc n) room none =
      passed_over n (omega (arith, room)) (λ k low high. none k low (omega (arith, high)))
      ∙ step bytes (from + n) (omega (arith, room)) false (none (from + n) (omega arith) (omega arith))
      ∙ ap (line_feed_from bytes) (omega arith)

  -- n bytes, none of which is a line feed
  pub none_among : (n : ℕ) → from + n ≤ length bytes → line_feeds (take n (drop from bytes)) ≡ 0
      → line_feed_from bytes from ≡ line_feed_from bytes (from + n)
  none_among n room none =
      passed_over n room (none_from_empty_mask is_line_feed bytes from n 0 room none)

  module _ (n : ℕ) (room : from + n ≤ length bytes) (few : n ≤ 64) where
    -- as they are compared
    pub feeds_compared : mask_l (map (top 7) (zip2 (λ a b. cond (eqb a b) 255 0)
        (chunk 0 n (take (length bytes - from) (drop from bytes))) (replicate n LF))) % 2 ^ 64
        ≡ line_feeds (take n (drop from bytes))
    feeds_compared = ap (λ rest. mask_l (map (top 7) (zip2 (λ a b. cond (eqb a b) 255 0)
        (chunk 0 n rest) (replicate n LF))) % 2 ^ 64)
        (take_all (length bytes - from) (drop from bytes) (omega (arith, length-drop from bytes)))
        ∙ found_is bytes from n room few eqb LF

    pub first_among : line_feeds (take n (drop from bytes)) ≢ 0
        → (count_trailing_zeros 64 (line_feeds (take n (drop from bytes))) < n)
        × (line_feed_from bytes from
        ≡ Some (from + count_trailing_zeros 64 (line_feeds (take n (drop from bytes)))))
    first_among some =
        let block = chunk from n bytes in
        let long : length block ≡ n = length-chunk from n bytes room in
        let set : 0 < mask_l (map is_line_feed block) = omega (arith, some) in
        let before = count_trailing_zeros 64 (line_feeds (take n (drop from bytes))) in
        let counted : before ≡ prefix_len passes block =
        trailing_mask_l is_line_feed 64 block (omega (arith, long, few)) set in
        let within : before < n = omega (arith, counted, long, some_stops block set) in (
          within,
          passed_over before (omega (arith, within, room))
              (run_in_chunk_fails is_line_feed bytes from n before 0 room counted)
              ∙ step bytes (from + before) (omega (arith, within, room)) true
              (run_in_chunk_stops is_line_feed bytes from n before 0 room counted within),
        )

-- ---- of a limit

-- a line that is not too long was not skipped so far
pub unskipped : (skipping x : Bool) → (skipping || x) ≡ false → (skipping ≡ false) × (x ≡ false)
unskipped true x h = absurd (cc)
unskipped false x h = (refl, h)

pub longer : (limit : Option ℕ) (m n : ℕ) → exceeds limit m ≡ true → m ≤ n → exceeds limit n ≡ true
longer None m n h le = absurd (cc)
longer (Some limit) m n h le = lt-ltb limit n (omega (arith, ltb-true limit m h))
