-- Whether a text is UTF-8 doesn't change when its letters are upper-cased.
use Rattle.std.proofs.Common.{◌≡◌, ◌≤◌, ◌<◌, ℕ, Bool, true, false, cond, nat_lt, List, [], ◌∷◌, ◌++◌, map, ◌⊎◌, refl, sym, ap, subst, ◌∙◌, inl, inr, arith}
use Rattle.std.specs.Char.{to_ascii_uppercase}
use Rattle.std.specs.List.{AllByRecursion}
use Rattle.std.specs.Str.{IsUtf8, is_utf8}
use Rattle.std.proofs.lemmas.Bool.{cases_lt, and_parts, and_from, false≢true, le-ltb}
use Rattle.std.proofs.lemmas.Bool.Decides.{nat_tests}
use Rattle.std.proofs.lemmas.List.{map-append}
use Rattle.std.proofs.lemmas.Str.{IsUtf8-from_is_utf8, is_utf8-from_IsUtf8, encode_ascii}
use Rattle.std.proofs.lemmas.Str.Ascii.{uppercase_ascii}
use lib.Utf8.{encode, encodes, scalar, scalars, low_scalar}
use Rattle.unftp_control_defs.specs.Bytes.{Bytes}
use Rattle.unftp_control_defs.specs.Verbs.{upper}

abbrev raise : ℕ → ℕ
raise c = to_ascii_uppercase c

high_uppercase : (c : ℕ) → 128 ≤ c → raise c ≡ c
high_uppercase c h = grind (arith, nat_tests)

low_uppercased : (c : ℕ) → raise c < 128 → c < 128
low_uppercased c h = grind (arith, nat_tests)

high_uppercased : (c : ℕ) → 128 ≤ raise c → raise c ≡ c
high_uppercased c h = grind (arith, nat_tests)

-- the bytes of a character past ASCII
abbrev pub High : Bytes → Type 0
High bytes = AllByRecursion (λ b. 128 ≤ b) bytes

High-cond : (test : Bool) (short long : Bytes) → (test ≡ true → High short) → High long
    → High (cond test short long)
High-cond true short long h k = h refl
High-cond false short long h k = k

pub High-encode : (c : ℕ) → 128 ≤ c → High (encode c)
unfolding encode
High-encode c h =
    High-cond (nat_lt c 128) _ _ (λ low. absurd (false≢true (sym (le-ltb c 128 h) ∙ low)))
    (High-cond (nat_lt c 2048) _ _ (λ _. (omega arith, (omega arith, tt)))
    (High-cond (nat_lt c 65536) _ _ (λ _. (omega arith, (omega arith, (omega arith, tt))))
    (omega arith, (omega arith, (omega arith, (omega arith, tt))))))

upper-High : (bytes : Bytes) → High bytes → upper bytes ≡ bytes
upper-High [] h = refl
upper-High (b ∷ bytes) h = λ i. high_uppercase b h.0 i ∷ upper-High bytes h.1 i

upper-encode : (c : ℕ) → upper (encode c) ≡ encode (raise c)
upper-encode c = by_size (cases_lt c 128)
  where
    by_size : (c < 128) ⊎ (128 ≤ c) → upper (encode c) ≡ encode (raise c)
    by_size (inl h) = ap upper (encode_ascii c h)
        ∙ sym (encode_ascii (raise c) (uppercase_ascii c h))
    by_size (inr h) = upper-High (encode c) (High-encode c h) ∙ ap encode (sym (high_uppercase c h))

upper-encodes : (cs : List ℕ) → upper (encodes cs) ≡ encodes (map raise cs)
upper-encodes [] = refl
upper-encodes (c ∷ cs) = map-append raise (encode c) (encodes cs)
    ∙ (λ i. upper-encode c i ++ upper-encodes cs i)

scalar-uppercase : (c : ℕ) → scalar c ≡ true → scalar (raise c) ≡ true
scalar-uppercase c h = by_size (cases_lt c 128)
  where
    by_size : (c < 128) ⊎ (128 ≤ c) → scalar (raise c) ≡ true
    by_size (inl l) = let r : raise c < 128 = uppercase_ascii c l in
        low_scalar (raise c) (omega arith)
    by_size (inr l) = ap scalar (high_uppercase c l) ∙ h

scalars-uppercase : (cs : List ℕ) → scalars cs ≡ true → scalars (map raise cs) ≡ true
scalars-uppercase [] h = refl
scalars-uppercase (c ∷ cs) h = let p = and_parts (scalar c) (scalars cs) h in
    and_from (scalar (raise c)) (scalars (map raise cs)) (scalar-uppercase c p.0)
    (scalars-uppercase cs p.1)

pub IsUtf8-upper : (text : Bytes) → IsUtf8 text → IsUtf8 (upper text)
IsUtf8-upper text u =
    (map raise u.0, (scalars-uppercase u.0 u.1.0, sym (upper-encodes u.0) ∙ ap upper u.1.1))

-- The other way: bytes past ASCII at the front are as they were.
abbrev Front : Bytes → Bytes → Bytes → Type 0
Front front rest text = (more : Bytes) × (text ≡ front ++ more) × (rest ≡ upper more)

high_front : (front rest text : Bytes) → High front → front ++ rest ≡ upper text
    → Front front rest text
high_front [] rest text h e = (text, refl, e)
high_front (x ∷ front) rest [] h e = cc
high_front (x ∷ front) rest (b ∷ text) h e =
    let here : x ≡ raise b = cc in
    let there : front ++ rest ≡ upper text = cc in
    let more = high_front front rest text h.1 there in
    let same : raise b ≡ b = high_uppercased b (subst (λ y. 128 ≤ y) here h.0) in
    (more.0, (λ i. sym (here ∙ same) i ∷ more.1 i), more.2)

abbrev Spells : Bytes → Type 0
Spells text = (cs : List ℕ) × (scalars cs ≡ true) × (encodes cs ≡ text)

module _ (c : ℕ) (cs : List ℕ) (is_scalar : scalar c ≡ true) (further : (text : Bytes)
    → encodes cs ≡ upper text → Spells text) where
  low_lowered : c < 128 → (text : Bytes) → c ∷ encodes cs ≡ upper text → Spells text
  low_lowered h [] e = cc
  low_lowered h (b ∷ text) e =
      let here : c ≡ raise b = cc in
      let there : encodes cs ≡ upper text = cc in
      let small : b < 128 = low_uppercased b (subst (λ y. y < 128) here h) in
      let more = further text there in (
        b ∷ more.0,
        and_from (scalar b) (scalars more.0) (low_scalar b (omega arith)) more.1,
        (λ i. encode_ascii b small i ++ more.2 i),
      )

  high_lowered : 128 ≤ c → (text : Bytes) → encode c ++ encodes cs ≡ upper text → Spells text
  high_lowered h text e =
      let front = high_front (encode c) (encodes cs) text (High-encode c h) e in
      let more = further front.0 front.2 in (
        c ∷ more.0,
        and_from (scalar c) (scalars more.0) is_scalar more.1,
        ap (λ t. encode c ++ t) more.2 ∙ sym front.1,
      )

  char_lowered : (text : Bytes) → encode c ++ encodes cs ≡ upper text → Spells text
  char_lowered text e = by_size (cases_lt c 128)
    where
      by_size : (c < 128) ⊎ (128 ≤ c) → Spells text
      by_size (inl h) = low_lowered h text (sym (ap (λ t. t ++ encodes cs) (encode_ascii c h)) ∙ e)
      by_size (inr h) = high_lowered h text e

lowered : (cs : List ℕ) (text : Bytes) → scalars cs ≡ true → encodes cs ≡ upper text → Spells text
lowered [] [] h e = ([], refl, refl)
lowered [] (b ∷ text) h e = cc
lowered (c ∷ cs) text h e = let p = and_parts (scalar c) (scalars cs) h in
    char_lowered c cs p.0 (λ rest q. lowered cs rest p.1 q) text e

IsUtf8-lowered : (text : Bytes) → IsUtf8 (upper text) → IsUtf8 text
IsUtf8-lowered text u = let s = lowered u.0 text u.1.0 u.1.1 in (s.0, (s.1, s.2))

same_test : (a b : Bool) → (a ≡ true → b ≡ true) → (b ≡ true → a ≡ true) → a ≡ b
same_test true b f g = sym (f refl)
same_test false true f g = g refl
same_test false false f g = refl

pub is_utf8-upper : (text : Bytes) → is_utf8 (upper text) ≡ is_utf8 text
is_utf8-upper text = same_test (is_utf8 (upper text)) (is_utf8 text)
    (λ h. is_utf8-from_IsUtf8 text (IsUtf8-lowered text (IsUtf8-from_is_utf8 (upper text) h)))
    (λ h. is_utf8-from_IsUtf8 (upper text) (IsUtf8-upper text (IsUtf8-from_is_utf8 text h)))
