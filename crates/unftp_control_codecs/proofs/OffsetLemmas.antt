-- The offset of REST, as std reads a number.
use Rattle.std.proofs.Common.{◌≡◌, ◌≢◌, ◌≤◌, ℕ, ◌<◌, ◌^◌, Bool, true, false, nat_lt, ◌&&◌, [], ◌∷◌, ◌++◌, length, take, get_or, Ok, Err, refl, ap, subst, ◌∙◌, arith, ⊎_elim, length-append}
use Rattle.std.proofs.lemmas.List.{get_or_at}
use Rattle.std.specs.Str.{all_ascii_digits}
use Rattle.std.specs.Str.Lossy.{utf8_lossy, utf8_valid_len, after_first_chunk}
use Rattle.std.specs.Str.Parse.{IsNumeral, AllDigits, digits_value, without_leading_plus}
use Rattle.std.proofs.lemmas.Str.{utf8_lossy-IsUtf8, utf8_lossy_step}
use Rattle.std.proofs.lemmas.Str.Parse.{IsNumeralModel, numerals_by_value, tells_all_ascii_digits, digit_at, without_leading_plus_plus, without_leading_plus_none}
use Rattle.std.proofs.lemmas.Bool.{and_parts, cases_eq, false_from_ne_true, lt-ltb, ltb-true}
use Rattle.unftp_control_defs.specs.Bytes.{Bytes, CR}
use Rattle.unftp_control_defs.specs.FtpCommand.{Rest, InvalidCommand}
use Rattle.unftp_control_defs.specs.Rules.{offset}
use Rattle.unftp_control_codecs.proofs.LossyPathLemmas.{utf8_lossy-split}

own : IsNumeralModel (λ ds. all_ascii_digits ds ≡ true) (digits_value 10)
own = numerals_by_value _ tells_all_ascii_digits

abbrev Reads : Bytes → Type 0
Reads text = IsNumeral 10 (without_leading_plus text)
    × (digits_value 10 (without_leading_plus text) < 2 ^ 64)

abbrev passes : Bytes → Bool
passes ds = nat_lt 0 (length ds) && all_ascii_digits ds && nat_lt (digits_value 10 ds) (2 ^ 64)

pub offset_ok : (text : Bytes) (n : ℕ) → Reads text
    → n ≡ digits_value 10 (without_leading_plus text) → offset text ≡ Ok (Rest n)
offset_ok text n h e = rw (lt-ltb 0 _ h.0.0, own.from _ h.0.1, lt-ltb _ (2 ^ 64) h.1, e)

pub offset_err : (text : Bytes) → ¬ (Reads text) → offset text ≡ Err InvalidCommand
offset_err text h =
    let ds : Bytes = without_leading_plus text in
    let no : passes ds ≡ false = false_from_ne_true (passes ds) (λ t.
    let a = and_parts (nat_lt 0 (length ds) && all_ascii_digits ds)
    (nat_lt (digits_value 10 ds) (2 ^ 64)) t in
    let b = and_parts (nat_lt 0 (length ds)) (all_ascii_digits ds) a.0 in
    h ((ltb-true 0 (length ds) b.0, own.to ds b.1), ltb-true (digits_value 10 ds) (2 ^ 64) a.1)) in
    rw no

-- a text with a byte that is no plus and no digit is no number
record IsOther (b : ℕ) : Type 0 where
  no_plus : b ≢ 43
  no_digit : 48 ≤ b → b ≤ 57 → ⊥

no_digits : (front : Bytes) (b : ℕ) (more : Bytes) → IsOther b
    → ¬ (AllDigits 10 (front ++ b ∷ more))
no_digits front b more other all =
    let at : get_or (front ++ b ∷ more) (length front) 0 ≡ b = get_or_at front b more 0 _ refl in
    let range = digit_at (front ++ b ∷ more) (length front) all
    (omega (arith, length-append front (b ∷ more))) in
    other.no_digit (omega (arith, range, at)) (omega (arith, range, at))

no_number : (front : Bytes) (b : ℕ) (more : Bytes) → IsOther b
    → ¬ (AllDigits 10 (without_leading_plus (front ++ b ∷ more)))
no_number [] b more other all = no_digits [] b more other
    (subst (AllDigits 10) (without_leading_plus_none (b ∷ more) other.no_plus) all)
no_number (a ∷ front) b more other all = ⊎_elim
    (λ plus. no_digits front b more other (subst (AllDigits 10)
    (without_leading_plus_plus (a ∷ (front ++ b ∷ more)) plus) all))
    (λ none. no_digits (a ∷ front) b more other (subst (AllDigits 10)
    (without_leading_plus_none (a ∷ (front ++ b ∷ more)) none) all))
    (cases_eq a 43)

not_offset : (front : Bytes) (b : ℕ) (more : Bytes) → IsOther b
    → offset (front ++ b ∷ more) ≡ Err InvalidCommand
not_offset front b more other =
    offset_err (front ++ b ∷ more) (λ reads. no_number front b more other reads.0.1)

-- as U+FFFD, for what is not UTF-8
pub offset_ill : (v : Bytes) → utf8_valid_len v < length v
    → offset (utf8_lossy v) ≡ Err InvalidCommand
offset_ill v h = ap offset (utf8_lossy_step v (λ e. absurd (omega arith)))
    ∙ not_offset (take (utf8_valid_len v) v) 239 (191 ∷ 189 ∷ utf8_lossy (after_first_chunk v))
    (record { no_plus = λ e. omega (arith, e); no_digit = λ low high. omega (arith, high) })

-- or a CR
pub offset_return : (front more : Bytes)
    → offset (utf8_lossy (front ++ CR ∷ more)) ≡ Err InvalidCommand
offset_return front more = ap offset (utf8_lossy-split CR (omega arith) more front)
    ∙ not_offset (utf8_lossy front) CR (utf8_lossy more)
    (record { no_plus = λ e. omega (arith, e); no_digit = λ low high. omega (arith, low) })

pub ruleset offsets = (offset_ok, offset_err, offset_ill, utf8_lossy-IsUtf8)
