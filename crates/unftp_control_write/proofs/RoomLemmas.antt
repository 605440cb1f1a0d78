-- How many bytes an escaped text has.
use Rattle.std.proofs.Common.{◌≡◌, ◌<◌, ◌≤◌, ◌+◌, ◌==◌, ℕ, suc, zero, cond, Bool, true, false, if◌then◌else◌, [], ◌∷◌, count_by, get_or, length, refl, take, arith}
use Rattle.std.proofs.lemmas.List.Sums.{sum_by-cons}
use Rattle.unftp_control_defs.specs.Bytes.{Bytes, CR}
use Rattle.unftp_control_defs.specs.Values.{escaped}

byte_escaped : (b : ℕ) (test : Bool) → (b == CR) ≡ test → (text : Bytes)
    → length (escaped (b ∷ text)) ≡ (if test then 2 else 1) + length (escaped text)
byte_escaped b true e text = rw e (omega arith)
byte_escaped b false e text = rw e (omega arith)

one_more : (test : Bool) → (if test then 2 else 1) ≡ 1 + cond test 1 0
one_more true = refl
one_more false = refl

pub length-escaped : (text : Bytes)
    → length (escaped text) ≡ length text + count_by (λ b. b == CR) text
length-escaped [] = refl
length-escaped (b ∷ text) = omega (
  arith,
  byte_escaped b (b == CR) refl text,
  one_more (b == CR),
  sum_by-cons (λ b. cond (b == CR) 1 0) b text,
  length-escaped text,
)

-- the bytes up to one, and that one, are at most all
pub escaped_so_far : (text : Bytes) (i d : ℕ) → i < length text
    → length (escaped (take i text)) + length (escaped (get_or text i d ∷ []))
    ≤ length (escaped text)
escaped_so_far [] i d small = absurd (omega (arith, small))
escaped_so_far (b ∷ text) zero d small = omega (
  arith,
  byte_escaped b (b == CR) refl text,
  byte_escaped b (b == CR) refl [],
)
escaped_so_far (b ∷ text) (suc i) d small = omega (
  arith,
  byte_escaped b (b == CR) refl text,
  byte_escaped b (b == CR) refl (take i text),
  escaped_so_far text i d (omega (arith, small)),
)
