-- What `replace` makes of a text where the pattern is one ASCII character: each such byte gives
-- way.
use Rattle.std.proofs.Common.{◌≡◌, ◌≢◌, ℕ, zero, suc, ◌<◌, ◌==◌, if◌then◌else◌, [], ◌∷◌, ◌++◌, length, take, drop, get_or, map, flat_map, None, Result, IfOk, String, Global, string_bytes, ◌⊎◌, inl, inr, refl, sym, ap, ◌∙◌, arith, eq-eqb, ne_eqb}
use Rattle.std.specs.Str.Pattern.{FindsChar}
use Rattle.std.specs.Str.Replace.{ReplacesMatches}
use Rattle.std.proofs.lemmas.Bool.{cases_eq}
use Rattle.std.proofs.lemmas.Grind.{flat_map-append}
use Rattle.std.proofs.lemmas.List.{take-append-drop}
use Rattle.std.proofs.lemmas.Result.{IfOk-weaker}
use Rattle.std.proofs.lemmas.Str.Pattern.{NoCharPasses-char, drop_at_char}
use Rattle.unftp_control_defs.specs.Bytes.{Bytes}

-- the text with other bytes in place of each c
abbrev pub replaced : ℕ → Bytes → Bytes → Bytes
replaced c to text = flat_map (λ b. if b == c then to else b ∷ []) text

abbrev LacksAtEach : ℕ → Bytes → Type 0
LacksAtEach c text = (i : ℕ) → i < length text → get_or text i 0 ≢ c

replaced-none : (c : ℕ) (to text : Bytes) → LacksAtEach c text → replaced c to text ≡ text
replaced-none c to [] h = refl
replaced-none c to (b ∷ text) h =
    let first : b ≢ c = h 0 (omega arith) in
    let later : LacksAtEach c text = λ i lt. h (suc i) (omega arith) in
    rw (ne_eqb b c first, replaced-none c to text later) refl

replaced-first : (c : ℕ) (to text : Bytes) → replaced c to (c ∷ text) ≡ to ++ replaced c to text
replaced-first c to text = rw (eq-eqb c c refl) refl

replaced-around : {c : ℕ} (to text : Bytes) (a b : ℕ) → LacksAtEach c (take a text)
    → drop a text ≡ c ∷ drop b text
    → replaced c to text ≡ take a text ++ (to ++ replaced c to (drop b text))
replaced-around {c} to text a b none at =
    ap (replaced c to) (sym (take-append-drop a text))
    ∙ flat_map-append (λ x. if x == c then to else x ∷ []) (take a text) (drop a text)
    ∙ ap (λ front. front ++ replaced c to (drop a text)) (replaced-none c to (take a text) none)
    ∙ ap (λ back. take a text ++ replaced c to back) at
    ∙ ap (λ back. take a text ++ back) (replaced-first c to (drop b text))

lacks_at_each : (c : ℕ) (text : Bytes) → c < 128 → FindsChar c text None → LacksAtEach c text
lacks_at_each c text ascii none = λ i lt. NoCharPasses-char c text i none ascii lt

not_empty : {c a b : ℕ} (text : Bytes) → drop a text ≡ c ∷ drop b text → a ≡ b → ⊥
not_empty {c} {b} text at same =
    let again : drop b text ≡ c ∷ drop b text = ap (λ i. drop i text) (sym same) ∙ at in
    let lengths : length (drop b text) ≡ suc (length (drop b text)) = ap length again in
    omega arith

replaced-by_matches : (to : Bytes) (n c : ℕ) (text : Bytes) {out : Bytes} → c < 128
    → ReplacesMatches FindsChar (λ p q. q ≡ p) to n c text out → out ≡ replaced c to text
replaced-by_matches to zero c text ascii h =
    h.1 ∙ sym (replaced-none c to text (lacks_at_each c text ascii h.0))
replaced-by_matches to (suc n) c text ascii h =
    let a : ℕ = h.0 in
    let b : ℕ = h.1 in
    let before : LacksAtEach c (take a text) = lacks_at_each c (take a text) ascii h.4.0 in
    let at : drop a text ≡ c ∷ drop b text = drop_at_char c text a b h.4.1 ascii in
    let rest : h.3 ≡ replaced c to (drop b text) = elim h.6 [
      | inl on ↦ replaced-by_matches to n h.2 (drop b text) (let e = h.5 in omega arith) on.1
          ∙ ap (λ p. replaced p to (drop b text)) h.5
      | inr on ↦ absurd (not_empty text at on.0)
    ] in
    h.7 ∙ ap (λ more. take a text ++ (to ++ more)) rest
    ∙ sym (replaced-around to text a b before at)

pub replaced-ok : {E : Type 0} (r : Result (String Global) E) (c : ℕ) (to text : Bytes) → c < 128
    → IfOk r (λ t. (n : ℕ) × ReplacesMatches FindsChar (λ p q. q ≡ p) to n c text (string_bytes t))
    → IfOk r (λ t. string_bytes t ≡ replaced c to text)
replaced-ok r c to text ascii h =
    IfOk-weaker r
    (λ t. (n : ℕ) × ReplacesMatches FindsChar (λ p q. q ≡ p) to n c text (string_bytes t))
    (λ t. string_bytes t ≡ replaced c to text)
    (λ t m. replaced-by_matches to m.0 c text ascii m.1) h

-- one byte in place of another
abbrev pub exchanged : ℕ → ℕ → Bytes → Bytes
exchanged c d text = map (λ b. if b == c then d else b) text

exchanged-cons : {c : ℕ} (d : ℕ) {b : ℕ} (text : Bytes)
    → replaced c (d ∷ []) text ≡ exchanged c d text
    → (b ≡ c) ⊎ (b ≡ c → ⊥)
    → replaced c (d ∷ []) (b ∷ text) ≡ exchanged c d (b ∷ text)
exchanged-cons {c} d {b} text more (inl e) = rw (eq-eqb b c e) (ap (λ bytes. d ∷ bytes) more)
exchanged-cons {c} d {b} text more (inr ne) = rw (ne_eqb b c ne) (ap (λ bytes. b ∷ bytes) more)

pub replaced-exchanged : (c d : ℕ) (text : Bytes) → replaced c (d ∷ []) text ≡ exchanged c d text
replaced-exchanged c d [] = refl
replaced-exchanged c d (b ∷ text) = exchanged-cons d text (replaced-exchanged c d text)
    (cases_eq b c)
