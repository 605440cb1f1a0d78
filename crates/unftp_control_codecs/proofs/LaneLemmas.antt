-- Bytes that are compared at once.
use Rattle.std.proofs.Common.{Bool, leb, arith, ne_eqb, refl, ◌≡◌, ℕ, ◌+◌, ◌^◌, ◌%◌, ◌≤◌, ◌<◌, cond, false, length, get_or, map, replicate, w8, sym, ◌∙◌}
use Rattle.std.proofs.lemmas.Bool.{false≢true, leb-false}
use Rattle.std.proofs.lemmas.Simd.{bitmask_splat, length-chunk, none_from_empty_mask}
use Rattle.std.specs.Prelude.{slice_index}
use Rattle.std.specs.Simd.Lanes.{chunk, mask_l, top, zip2}
use Rattle.unftp_control_defs.specs.Bytes.{Bytes, CR, LF}
use Rattle.unftp_control_defs.specs.Verbs.{is_separator}
use Rattle.unftp_control_codecs.specs.Values.{ends_run, LacksRunEnd}

-- bytes that are greater than a CR
no_stop : (b : ℕ) → CR < b → ends_run b ≡ false
no_stop b above = rw (
  ne_eqb b CR (λ is. omega (arith, is, above)),
  ne_eqb b LF (λ is. omega (arith, is, above)),
) refl

-- bytes that are greater than a space
no_separator : (b : ℕ) → 32 < b → is_separator b ≡ false
no_separator b above = rw (
  ne_eqb b 32 (λ is. omega (arith, is, above)),
  ne_eqb b CR (λ is. omega (arith, is, above)),
  ne_eqb b LF (λ is. omega (arith, is, above)),
) refl

module _ (bytes : Bytes) (from n : ℕ) where
  -- a bit for each of n bytes, 1 where this holds of it and of the byte that is compared
  abbrev pub found : (ℕ → ℕ → Bool) → ℕ → ℕ
  found compare byte = mask_l (map (top 7) (zip2 (λ a b. cond (compare a b) 255 0)
      (chunk from n bytes) (replicate n byte))) % 2 ^ 64

  module _ (room : from + n ≤ length bytes) (few : n ≤ 64) where
    pub found_is : (compare : ℕ → ℕ → Bool) (byte : ℕ) → found compare byte
        ≡ mask_l (map (λ b. compare b byte) (chunk from n bytes))
    found_is compare byte =
        bitmask_splat w8 compare (chunk from n bytes) n byte (length-chunk from n bytes room) few

    pub none_found : (compare : ℕ → ℕ → Bool) (byte : ℕ) → found compare byte ≡ 0
        → (k : ℕ) → from ≤ k → k < from + n → compare (slice_index bytes k) byte ≡ false
    none_found compare byte none = none_from_empty_mask (λ b. compare b byte) bytes from n 0 room
        (sym (found_is compare byte) ∙ none)

    all_above : (byte : ℕ) → found leb byte ≡ 0
        → (k : ℕ) → from ≤ k → k < from + n → byte < get_or bytes k 0
    all_above byte none k low high =
        leb-false (get_or bytes k 0) byte (none_found leb byte none k low high)

    pub no_stop_found : found leb CR ≡ 0 → LacksRunEnd bytes from (from + n)
    no_stop_found none k low high stop =
        false≢true (sym (no_stop (get_or bytes k 0) (all_above CR none k low high)) ∙ stop)

pub no_separator_found : (bytes : Bytes) (n : ℕ) → n ≤ length bytes → n ≤ 64
    → found bytes 0 n leb 32 ≡ 0
    → (k : ℕ) → k < n → is_separator (get_or bytes k 0) ≡ false
no_separator_found bytes n room few none k lt =
    let above = all_above bytes 0 n (omega (arith, room)) few 32 none in
    no_separator (get_or bytes k 0) (above k (omega arith) (omega (arith, lt)))
