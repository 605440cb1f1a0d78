-- A path between quotes is read back, and has a line feed only where the path has one.
use Rattle.std.proofs.Common.{◌≡◌, ◌≢◌, ℕ, [], ◌∷◌, ◌++◌, ◌⊎◌, inl, inr, append_assoc, refl, sym, ap, ◌∙◌, arith, eq-eqb, ne_eqb}
use Rattle.std.proofs.lemmas.Bool.{cases_eq}
use Rattle.unftp_control_defs.specs.Bytes.{Bytes, LF, Lacks}
use Rattle.unftp_control_defs.proofs.LackLemmas.{Lacks-append}
use Rattle.unftp_control_commands.specs.ReplyTexts.{QUOTE, doubled, quoted, HasNoFirstQuote}

-- what follows the first quote
abbrev ended : Bytes → Bytes → Bytes
ended path rest = doubled path ++ QUOTE ∷ rest

ended-quote : (b : ℕ) (path rest : Bytes) → b ≡ QUOTE
    → ended (b ∷ path) rest ≡ QUOTE ∷ QUOTE ∷ ended path rest
ended-quote b path rest e = rw (eq-eqb b QUOTE e) refl

ended-other : (b : ℕ) (path rest : Bytes) → b ≢ QUOTE → ended (b ∷ path) rest ≡ b ∷ ended path rest
ended-other b path rest ne = rw (ne_eqb b QUOTE ne) refl

-- a path that has ended is not one that goes on
ended-nil : {b : ℕ} (path rest : Bytes) {other_rest : Bytes} → HasNoFirstQuote other_rest
    → (b ≡ QUOTE) ⊎ (b ≡ QUOTE → ⊥)
    → ended (b ∷ path) rest ≡ QUOTE ∷ other_rest → ⊥
ended-nil {b} path rest {other_rest} none (inl is) e =
    let same : QUOTE ∷ QUOTE ∷ ended path rest ≡ QUOTE ∷ other_rest =
    sym (ended-quote b path rest is) ∙ e in
    none (ended path rest) cc
ended-nil {b} path rest {other_rest} none (inr ne) e =
    let same : b ∷ ended path rest ≡ QUOTE ∷ other_rest = sym (ended-other b path rest ne) ∙ e in
    ne cc

-- two that go on have the same first byte
ended-cons : {a b : ℕ} (path other rest other_rest : Bytes) → (a ≡ QUOTE) ⊎ (a ≡ QUOTE → ⊥)
    → (b ≡ QUOTE) ⊎ (b ≡ QUOTE → ⊥)
    → ended (a ∷ path) rest ≡ ended (b ∷ other) other_rest
    → (a ≡ b) × (ended path rest ≡ ended other other_rest)
ended-cons {a} {b} path other rest other_rest (inl p) (inl q) e =
    let same : QUOTE ∷ QUOTE ∷ ended path rest ≡ QUOTE ∷ QUOTE ∷ ended other other_rest
    = sym (ended-quote a path rest p) ∙ e ∙ ended-quote b other other_rest q in
    (p ∙ sym q, cc)
ended-cons {a} {b} path other rest other_rest (inl p) (inr q) e =
    let same : QUOTE ∷ QUOTE ∷ ended path rest ≡ b ∷ ended other other_rest
    = sym (ended-quote a path rest p) ∙ e ∙ ended-other b other other_rest q in
    let is : b ≡ QUOTE = cc in absurd (q is)
ended-cons {a} {b} path other rest other_rest (inr p) (inl q) e =
    let same : a ∷ ended path rest ≡ QUOTE ∷ QUOTE ∷ ended other other_rest
    = sym (ended-other a path rest p) ∙ e ∙ ended-quote b other other_rest q in
    let is : a ≡ QUOTE = cc in absurd (p is)
ended-cons {a} {b} path other rest other_rest (inr p) (inr q) e =
    let same : a ∷ ended path rest ≡ b ∷ ended other other_rest
    = sym (ended-other a path rest p) ∙ e ∙ ended-other b other other_rest q in
    (cc, cc)

ended-injective : (path other : Bytes) {rest other_rest : Bytes} → HasNoFirstQuote rest
    → HasNoFirstQuote other_rest
    → ended path rest ≡ ended other other_rest → (path ≡ other) × (rest ≡ other_rest)
ended-injective [] [] h g e = (refl, cc)
ended-injective [] (b ∷ other) {other_rest} h g e =
    absurd (ended-nil other other_rest h (cases_eq b QUOTE) (sym e))
ended-injective (a ∷ path) [] {rest} h g e =
    absurd (ended-nil path rest g (cases_eq a QUOTE) e)
ended-injective (a ∷ path) (b ∷ other) {rest} {other_rest} h g e =
    let parts = ended-cons path other rest other_rest (cases_eq a QUOTE) (cases_eq b QUOTE) e in
    let more = ended-injective path other h g parts.1 in
    let first = parts.0 in
    let later = more.0 in
    (cc, more.1)

ended-quoted : (path rest : Bytes) → quoted path ++ rest ≡ QUOTE ∷ ended path rest
ended-quoted path rest = ap (λ text. QUOTE ∷ text) (append_assoc (doubled path) (QUOTE ∷ []) rest)

pub quoted-injective : {path other rest other_rest : Bytes} → HasNoFirstQuote rest
    → HasNoFirstQuote other_rest
    → quoted path ++ rest ≡ quoted other ++ other_rest → (path ≡ other) × (rest ≡ other_rest)
quoted-injective {path} {other} {rest} {other_rest} h g e =
    let same : QUOTE ∷ ended path rest ≡ QUOTE ∷ ended other other_rest =
    sym (ended-quoted path rest) ∙ e ∙ ended-quoted other other_rest in
    let text : ended path rest ≡ ended other other_rest = cc in
    ended-injective path other h g text

doubled-byte : {b : ℕ} (path : Bytes) → b ≢ LF → Lacks LF (doubled path)
    → (b ≡ QUOTE) ⊎ (b ≡ QUOTE → ⊥) → Lacks LF (doubled (b ∷ path))
doubled-byte {b} path no_lf h (inl e) =
    rw (eq-eqb b QUOTE e) ((λ q. omega arith), ((λ q. omega arith), h))
doubled-byte {b} path no_lf h (inr ne) = rw (ne_eqb b QUOTE ne) (no_lf, h)

Lacks-doubled : (path : Bytes) → Lacks LF path → Lacks LF (doubled path)
Lacks-doubled [] h = tt
Lacks-doubled (b ∷ path) h = doubled-byte path h.0 (Lacks-doubled path h.1) (cases_eq b QUOTE)

pub Lacks-quoted : (path : Bytes) → Lacks LF path → Lacks LF (quoted path)
Lacks-quoted path h = (
  (λ q. omega arith),
  Lacks-append LF (doubled path) (QUOTE ∷ []) (Lacks-doubled path h)
      ((λ q. omega arith), tt),
)

-- ---- a path that is quoted part by part

doubled-cut : (part after : Bytes) → Lacks QUOTE part
    → doubled (part ++ QUOTE ∷ after) ≡ part ++ QUOTE ∷ QUOTE ∷ doubled after
doubled-cut [] after h = refl
doubled-cut (b ∷ part) after h =
    rw (ne_eqb b QUOTE h.0) (ap (λ text. b ∷ text) (doubled-cut part after h.1))

doubled-lacking : (path : Bytes) → Lacks QUOTE path → doubled path ≡ path
doubled-lacking [] h = refl
doubled-lacking (b ∷ path) h =
    rw (ne_eqb b QUOTE h.0) (ap (λ text. b ∷ text) (doubled-lacking path h.1))

-- what is written so far, and what is still to be written of the path
abbrev pub is_left : Bytes → Bytes
is_left path = doubled path ++ QUOTE ∷ []

pub next_part : (text part after : Bytes) {path whole : Bytes} → path ≡ part ++ QUOTE ∷ after
    → Lacks QUOTE part → text ++ is_left path ≡ whole
    → ((text ++ part) ++ QUOTE ∷ QUOTE ∷ []) ++ is_left after ≡ whole
next_part text part after {path} cut lacks whole =
    let left : is_left path ≡ part ++ QUOTE ∷ QUOTE ∷ is_left after =
    ap (λ found. found ++ QUOTE ∷ []) (ap doubled cut ∙ doubled-cut part after lacks)
    ∙ append_assoc part (QUOTE ∷ QUOTE ∷ doubled after) (QUOTE ∷ []) in
    append_assoc (text ++ part) (QUOTE ∷ QUOTE ∷ []) (is_left after)
    ∙ append_assoc text part (QUOTE ∷ QUOTE ∷ is_left after)
    ∙ ap (λ more. text ++ more) (sym left) ∙ whole

pub last_part : (text path : Bytes) {whole : Bytes} → Lacks QUOTE path
    → text ++ is_left path ≡ whole → (text ++ path) ++ QUOTE ∷ [] ≡ whole
last_part text path lacks whole =
    append_assoc text path (QUOTE ∷ [])
    ∙ ap (λ found. text ++ (found ++ QUOTE ∷ [])) (sym (doubled-lacking path lacks)) ∙ whole
