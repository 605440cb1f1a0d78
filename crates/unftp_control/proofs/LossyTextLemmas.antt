-- The text whose ill-formed UTF-8 is replaced, beside std's words and those of `bstr`, which tests
-- one byte after the other.
use Rattle.std.proofs.Common.{◌≡◌, ◌≢◌, ◌<◌, ◌≤◌, ℕ, zero, suc, ◌+◌, Bool, true, false, cond, Option, Some, None, List, [], ◌∷◌, ◌++◌, length, take, drop, length-drop, encode_utf8, encode_utf8_all, refl, sym, ap, ◌∙◌, subst, arith, ⊎_elim}
use Rattle.std.specs.Prelude.{◌==◌, is_some, fold, max}
use Rattle.std.specs.Char.{IsScalar}
use Rattle.std.specs.Int.{is_in_range, IsInRange}
use Rattle.std.specs.List.{list_any}
use Rattle.std.specs.Str.Lossy.{utf8_lossy}
use Rattle.std.proofs.lemmas.Bool.{cases_lt}
use Rattle.std.proofs.lemmas.Bool.Decides.{nat_tests}
use Rattle.std.proofs.lemmas.List.{take_at}
use lib.Utf8.{scalar}
use Rattle.bstr.specs.Utf8.{decoded, second, or_replacement}
use Rattle.bstr.proofs.lemmas.EncodeLemmas.{decoded-encode}
use Rattle.bstr.proofs.lemmas.LossyLemmas.{lossy_chars-utf8_lossy}
use Rattle.bstr.proofs.lemmas.PieceLemmas.{lossy_chars-step, lossy_chars-nil, piece-bounds}
use Rattle.bstr.proofs.lemmas.SoundLemmas.{SpellsChar-decoded}
use Rattle.bstr.proofs.lemmas.UnicodeLemmas.{replacement_bytes}
use Rattle.unftp_control_defs.specs.Bytes.{Bytes}
use Rattle.unftp_control_defs.specs.LossyText.{rows, fitting_len, Part, Character, IllFormed, first_part, LossyText, ended, character, ill_formed}

-- how many bytes `decoded` takes, and whether they are a character
abbrev Decodes : Bytes → ℕ → Bool → Type 0
Decodes bytes n is_character = (n ≡ (decoded bytes).size)
    × (is_character ≡ is_some (decoded bytes).char)

-- `decoded` takes what fits the row of b, of which these are the other ranges
abbrev Fits : ℕ → List (ℕ × ℕ) → Bytes → Type 0
Fits b others rest = Decodes (b ∷ rest) (1 + fitting_len others rest)
    (1 + fitting_len others rest == 1 + length others)

Fits-two : (b : ℕ) (rest : Bytes) → IsInRange 0xC2 0xDF b → Fits b ((0x80, 0xBF) ∷ []) rest
Fits-two b [] within = grind (arith, nat_tests)
Fits-two b (c ∷ rest) within = grind (arith, nat_tests)

-- after b `decoded` takes a byte of this range
abbrev IsNext : ℕ → ℕ × ℕ → Type 0
IsNext b range = (c : ℕ) → second b c ≡ is_in_range range.0 range.1 c

Fits-three : (b : ℕ) (range : ℕ × ℕ) (rest : Bytes) → IsInRange 0xE0 0xEF b → IsNext b range
    → Fits b (range ∷ (0x80, 0xBF) ∷ []) rest
Fits-three b range [] within next = grind (arith, nat_tests)
Fits-three b range (c ∷ []) within next = let t = next c in grind (arith, nat_tests, t)
Fits-three b range (c ∷ d ∷ rest) within next = let t = next c in
    (grind (arith, nat_tests, t), grind (arith, nat_tests, t))

Fits-four : (b : ℕ) (range : ℕ × ℕ) (rest : Bytes) → IsInRange 0xF0 0xF4 b → IsNext b range
    → Fits b (range ∷ (0x80, 0xBF) ∷ (0x80, 0xBF) ∷ []) rest
Fits-four b range [] within next = grind (arith, nat_tests)
Fits-four b range (c ∷ []) within next = let t = next c in grind (arith, nat_tests, t)
Fits-four b range (c ∷ d ∷ []) within next = let t = next c in grind (arith, nat_tests, t)
Fits-four b range (c ∷ d ∷ e ∷ rest) within next = let t = next c in
    (grind (arith, nat_tests, t), grind (arith, nat_tests, t))

abbrev part_from : Option ℕ → ℕ → Part
part_from o n = cond (is_some o) (Character n) (IllFormed n)

abbrev IsFirst : Bytes → ℕ → Bool → Type 0
IsFirst bytes n is_character =
    (fold (λ longest row. max longest (fitting_len row bytes)) 1 rows ≡ n)
    × (list_any (λ row. fitting_len row bytes == length row) rows ≡ is_character)

by_row : {n : ℕ} {is_character : Bool} (bytes : Bytes) → IsFirst bytes n is_character
    → Decodes bytes n is_character
    → first_part bytes ≡ part_from (decoded bytes).char (decoded bytes).size
by_row bytes first decodes =
    let size = first.0 ∙ decodes.0 in
    let test = first.1 ∙ decodes.1 in
    λ i. cond (test i) (Character (size i)) (IllFormed (size i))

first_part-decoded : (bytes : Bytes) → bytes ≢ []
    → first_part bytes ≡ part_from (decoded bytes).char (decoded bytes).size
first_part-decoded [] some = absurd (some refl)
first_part-decoded (b ∷ rest) some =
    ⊎_elim (λ u. by_row {n = 1} {is_character = true} (b ∷ rest) (grind (arith, nat_tests))
    (grind (arith, nat_tests))) (λ l.
    ⊎_elim (λ u. by_row {n = 1} {is_character = false} (b ∷ rest) (grind (arith, nat_tests))
    (grind (arith, nat_tests))) (λ l.
    ⊎_elim (λ u. by_row (b ∷ rest) (grind (arith, nat_tests)) (Fits-two b rest (omega arith))) (λ l.
    ⊎_elim (λ u. by_row (b ∷ rest) (grind (arith, nat_tests))
    (Fits-three b (0xA0, 0xBF) rest (omega arith) (λ c. grind (arith, nat_tests)))) (λ l.
    ⊎_elim (λ u. by_row (b ∷ rest) (grind (arith, nat_tests))
    (Fits-three b (0x80, 0xBF) rest (omega arith) (λ c. grind (arith, nat_tests)))) (λ l.
    ⊎_elim (λ u. by_row (b ∷ rest) (grind (arith, nat_tests))
    (Fits-three b (0x80, 0x9F) rest (omega arith) (λ c. grind (arith, nat_tests)))) (λ l.
    ⊎_elim (λ u. by_row (b ∷ rest) (grind (arith, nat_tests))
    (Fits-three b (0x80, 0xBF) rest (omega arith) (λ c. grind (arith, nat_tests)))) (λ l.
    ⊎_elim (λ u. by_row (b ∷ rest) (grind (arith, nat_tests))
    (Fits-four b (0x90, 0xBF) rest (omega arith) (λ c. grind (arith, nat_tests)))) (λ l.
    ⊎_elim (λ u. by_row (b ∷ rest) (grind (arith, nat_tests))
    (Fits-four b (0x80, 0xBF) rest (omega arith) (λ c. grind (arith, nat_tests)))) (λ l.
    ⊎_elim (λ u. by_row (b ∷ rest) (grind (arith, nat_tests))
    (Fits-four b (0x80, 0x8F) rest (omega arith) (λ c. grind (arith, nat_tests))))
    (λ l. by_row {n = 1} {is_character = false} (b ∷ rest) (grind (arith, nat_tests))
    (grind (arith, nat_tests)))
    (cases_lt b 0xF5)) (cases_lt b 0xF4)) (cases_lt b 0xF1)) (cases_lt b 0xF0)) (cases_lt b 0xEE))
    (cases_lt b 0xED)) (cases_lt b 0xE1)) (cases_lt b 0xE0)) (cases_lt b 0xC2))
    (cases_lt b 0x80)

abbrev size_of : Part → ℕ
size_of (Character n) = n
size_of (IllFormed n) = n

abbrev text_of : Bytes → Part → Bytes
text_of bytes (Character n) = take n bytes
text_of bytes (IllFormed n) = 0xEF ∷ 0xBF ∷ 0xBD ∷ []

size_of-from : (o : Option ℕ) {n : ℕ} → size_of (part_from o n) ≡ n
size_of-from None = refl
size_of-from (Some c) = refl

take-decoded : (bytes : Bytes) (c : ℕ) → (decoded bytes).char ≡ Some c
    → take (decoded bytes).size bytes ≡ encode_utf8 c
take-decoded bytes c is =
    let spells = SpellsChar-decoded bytes c is in
    ap (take (decoded bytes).size) spells.bytes ∙ take_at (encode_utf8 c) _ _ spells.width

text_of-from : (bytes : Bytes) (o : Option ℕ) → (decoded bytes).char ≡ o
    → text_of bytes (part_from o (decoded bytes).size) ≡ encode_utf8 (or_replacement o)
text_of-from bytes None is = sym replacement_bytes
text_of-from bytes (Some c) is = take-decoded bytes c is

some_bytes : (bytes : Bytes) → bytes ≢ [] → 0 < length bytes
some_bytes [] some = absurd (some refl)
some_bytes (b ∷ bytes) some = omega arith

-- part by part
utf8_lossy-first : (bytes : Bytes) {p : Part} → bytes ≢ [] → first_part bytes ≡ p
    → utf8_lossy bytes ≡ text_of bytes p ++ utf8_lossy (drop (size_of p) bytes)
utf8_lossy-first bytes some is =
    let first = sym (text_of-from bytes _ refl) in
    let rest = lossy_chars-utf8_lossy (drop (decoded bytes).size bytes)
    ∙ ap (λ k. utf8_lossy (drop k bytes)) (sym (size_of-from (decoded bytes).char)) in
    sym (lossy_chars-utf8_lossy bytes)
    ∙ ap encode_utf8_all (lossy_chars-step bytes (some_bytes bytes some))
    ∙ (λ i. first i ++ rest i)
    ∙ ap (λ q. text_of bytes q ++ utf8_lossy (drop (size_of q) bytes))
    (sym (first_part-decoded bytes some) ∙ is)

utf8_lossy-nil : utf8_lossy [] ≡ []
utf8_lossy-nil = sym (lossy_chars-utf8_lossy []) ∙ ap encode_utf8_all lossy_chars-nil

pub LossyText-unique : (bytes text : Bytes) → LossyText bytes text → utf8_lossy bytes ≡ text
LossyText-unique _ _ ended = utf8_lossy-nil
LossyText-unique _ _ (character bytes text n is rest) =
    let some : bytes ≢ [] = λ none. let first = ap first_part none in cc in
    utf8_lossy-first bytes some is ∙ ap (λ t. take n bytes ++ t) (LossyText-unique _ _ rest)
LossyText-unique _ _ (ill_formed bytes text n some is rest) =
    utf8_lossy-first bytes some is ∙ ap (λ t. 0xEF ∷ 0xBF ∷ 0xBD ∷ t) (LossyText-unique _ _ rest)

begun : {bytes text : Bytes} (p : Part) → bytes ≢ [] → first_part bytes ≡ p
    → LossyText (drop (size_of p) bytes) text → LossyText bytes (text_of bytes p ++ text)
begun (Character n) some is rest = character _ _ n is rest
begun (IllFormed n) some is rest = ill_formed _ _ n some is rest

LossyText-up_to : (n : ℕ) (bytes : Bytes) → length bytes ≤ n → LossyText bytes (utf8_lossy bytes)
LossyText-up_to n [] h = subst (LossyText []) (sym utf8_lossy-nil) ended
LossyText-up_to zero (b ∷ bytes) h = absurd (omega arith)
LossyText-up_to (suc n) (b ∷ bytes) h =
    let all = b ∷ bytes in
    let some : all ≢ [] = λ e. cc in
    let bounds = piece-bounds all (omega arith) in
    let size = ap size_of (first_part-decoded all some) ∙ size_of-from (decoded all).char in
    let shorter = length-drop (size_of (first_part all)) all in
    subst (LossyText all) (sym (utf8_lossy-first all some refl))
    (begun (first_part all) some refl
    (LossyText-up_to n _ (omega (arith, h, bounds.0, bounds.2, size, shorter))))

pub LossyText-utf8_lossy : (bytes : Bytes) → LossyText bytes (utf8_lossy bytes)
LossyText-utf8_lossy bytes = LossyText-up_to (length bytes) bytes (omega arith)

pub first_part-encode : (c : ℕ) (rest : Bytes) → scalar c ≡ true
    → first_part (encode_utf8 c ++ rest) ≡ Character (length (encode_utf8 c))
first_part-encode c rest is =
    let read = decoded-encode c rest is in
    let char = ap (λ p. p.char) read in
    first_part-decoded (encode_utf8 c ++ rest)
    (λ none. let empty = ap (λ bs. (decoded bs).char) none in cc)
    ∙ ap (λ p. part_from p.char p.size) read

pub first_part-scalar : (bytes : Bytes) (n : ℕ) → first_part bytes ≡ Character n
    → (c : ℕ) × IsScalar c × (take n bytes ≡ encode_utf8 c)
first_part-scalar bytes n is =
    let some : bytes ≢ [] = λ none. let first = ap first_part none in cc in
    by _ refl (sym is ∙ first_part-decoded bytes some)
  where
    by : (o : Option ℕ) → (decoded bytes).char ≡ o → Character n ≡ part_from o (decoded bytes).size
        → (c : ℕ) × IsScalar c × (take n bytes ≡ encode_utf8 c)
    by None found same = cc
    by (Some c) found same = let size : n ≡ (decoded bytes).size = cc in (
      c,
      (SpellsChar-decoded bytes c found).scalar,
      ap (λ k. take k bytes) size
          ∙ take-decoded bytes c found,
    )
