-- Digits and what they spell.
use Rattle.std.proofs.Common.{Bool, ◌&&◌, false, ◌≡◌, ◌<◌, ◌≤◌, ◌+◌, ◌-◌, ◌*◌, ℕ, true, length, take, get_or, refl, arith, rules, tests, lit≤, if◌then◌else◌, cond, nat_lt, Some, None, not}
use Rattle.std.specs.Char.{is_ascii_digit}
use Rattle.std.specs.Int.{IsInRange}
use Rattle.std.specs.List.{list_all, position_or_len}
use Rattle.std.specs.Str.Parse.{digits_value}
use Rattle.std.proofs.lemmas.Bool.{lt-ltb}
use Rattle.std.proofs.lemmas.List.Sums.{prefix_len-le-length}
use Rattle.std.proofs.lemmas.List.{take_all}
use Rattle.std.proofs.lemmas.Str.{digit_value_digit}
use Rattle.std.proofs.lemmas.Str.Parse.{IsDigitsTest, IsNumeralModel, numerals_by_value, digits_value-take-le, digits_value_short, digit_at}
use Rattle.std.proofs.lemmas.Int.Digits.{digits_value_more}
use Rattle.unftp_control_address.specs.Numbers.{is_number, number_below}
use Rattle.unftp_control_defs.specs.Bytes.{Bytes}

abbrev pub AreDigits : Bytes → Type 0
AreDigits text = list_all is_ascii_digit text ≡ true

tells : IsDigitsTest AreDigits
tells = search rules

pub own : IsNumeralModel AreDigits (digits_value 10)
own = numerals_by_value AreDigits tells

-- the digit at this place, and the number that the digits up to it are
pub record HasDigitAt (text : Bytes) (i : ℕ) : Type 0 where
  pub digit : 48 ≤ get_or text i 0
  pub value : digits_value 10 (take (i + 1) text)
      ≡ 10 * digits_value 10 (take i text) + (get_or text i 0 - 48)
  pub small : digits_value 10 (take (i + 1) text) < 100000

pub digits_of : (most : ℕ) (text : Bytes) → is_number most text ≡ true → AreDigits text × (length text ≤ most) × (0 < length text)
digits_of most text e = search (rules, tests, arith)

pub step : (most : ℕ) (text : Bytes) (i : ℕ) → is_number most text ≡ true → most ≤ 5 → i < length text
    → HasDigitAt text i
step most text i e short within =
    let digits = digits_of most text e in
    let d : IsInRange 48 57 (get_or text i 0) = digit_at text i (own.to text digits.0) within in
    let v = digit_value_digit (get_or text i 0) d in
    let more = digits_value_more 10 text i within in
    let le = digits_value-take-le 10 text (i + 1) (lit≤ tt) in
    let bound = digits_value_short own text 5 digits.0 (omega (arith, digits.1)) in
    record {
      digit = d.0;
      value = omega (arith, v, more, d.0);
      small = omega (arith, le, bound);
    }

pub spelled : (most : ℕ) (text : Bytes) → is_number most text ≡ true → most ≤ 5
    → number_below most 100000 text ≡ Some (digits_value 10 text)
spelled most text e short =
    let digits = digits_of most text e in
    let bound = digits_value_short own text 5 digits.0 (omega (arith, digits.1)) in
    rw (e, lt-ltb (digits_value 10 text) 100000 bound) refl

pub not_spelled : (most bound : ℕ) (text : Bytes) → is_number most text ≡ false → number_below most bound text ≡ None
not_spelled most bound text e = rw e refl

pub narrow : (most bound n : ℕ) (text : Bytes) → bound ≤ 100000 → number_below most 100000 text ≡ Some n → number_below most bound text ≡ (if nat_lt n bound then Some n else None)
narrow most bound n text small e = search (rules, tests, arith)

pub narrow_none : (most bound : ℕ) (text : Bytes) → bound ≤ 100000 → number_below most 100000 text ≡ None → number_below most bound text ≡ None
narrow_none most bound text small e = search (rules, tests, arith)

-- what `position` returned
pub no_place : {m n : ℕ} → cond (nat_lt m n) (Some m) None ≡ None → n ≤ m
no_place {m} {n} e = search (rules, tests, arith)

pub place : {m n i : ℕ} → cond (nat_lt m n) (Some m) None ≡ Some i → (m < n) × (m ≡ i)
place {m} {n} {i} e = search (rules, tests, arith)

pub taken_all : (text : Bytes) (i : ℕ) → length text ≤ i → take i text ≡ text
taken_all text i past = take_all i text past

pub is_number_of : (most : ℕ) (text : Bytes) → AreDigits text → length text ≤ most → 0 < length text
    → is_number most text ≡ true
is_number_of most text digits short some = search (rules, tests, arith)

pub at_end : (p : ℕ → Bool) (text : Bytes) → length text ≤ position_or_len p text
    → length text ≡ position_or_len p text
at_end p text past = omega (arith, past, prefix_len-le-length (λ b. not (p b)) text)

pub and_parts : (a b : Bool) → (a && b) ≡ true → (a ≡ true) × (b ≡ true)
and_parts true b e = (refl, e)
and_parts false b e = search (rules, tests)
