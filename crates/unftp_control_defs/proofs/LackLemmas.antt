-- Texts without a byte stay so: joined, cut, escaped, in decimals, or with ill-formed UTF-8
-- replaced.
use Rattle.std.proofs.Common.{◌≡◌, ◌≢◌, ◌<◌, ◌+◌, ◌/◌, ◌%◌, nat_lt, ◌==◌, ◌&&◌, ℕ, zero, suc, Bool, true, false, not, [], ◌∷◌, ◌++◌, take, drop, ◌⊎◌, sym, ap, ◌∙◌, inl, inr, arith, eq-eqb, ne_eqb}
use Rattle.std.specs.Fmt.{decimal, digits, digits_onto, digit_glyph}
use Rattle.std.specs.Str.Lossy.{utf8_lossy, utf8_valid_len, replacement_bytes, utf8_invalid_len}
use Rattle.std.proofs.lemmas.Bool.{cases_eq, cond_both, and_parts, not-true, false≢true, eqb-false}
use Rattle.unftp_control_defs.specs.Bytes.{Bytes, LF, CR, SP, Lacks}
use Rattle.unftp_control_defs.specs.Verbs.{is_separator}
use Rattle.unftp_control_defs.specs.Values.{escaped}
use Rattle.unftp_control_defs.specs.Paths.{path_of}
use Rattle.unftp_control_defs.specs.Canonical.{IsUpperCaseName}
use Rattle.unftp_control_defs.proofs.LossyLemmas.{utf8_lossy-keeps}
use Rattle.unftp_control_defs.proofs.PathLemmas.{path_of-keeps}

-- a test for texts that are written out
abbrev pub lacks : ℕ → Bytes → Bool
lacks b [] = true
lacks b (a ∷ text) = not (a == b) && lacks b text

pub Lacks-test : (b : ℕ) (text : Bytes) → lacks b text ≡ true → Lacks b text
Lacks-test b [] h = tt
Lacks-test b (a ∷ text) h = let parts = and_parts (not (a == b)) (lacks b text) h in
    (eqb-false a b (not-true (a == b) parts.0), Lacks-test b text parts.1)

pub Lacks-append : (b : ℕ) (text more : Bytes) → Lacks b text → Lacks b more
    → Lacks b (text ++ more)
Lacks-append b [] more h g = g
Lacks-append b (a ∷ text) more h g = (h.0, Lacks-append b text more h.1 g)

pub Lacks-take : (b n : ℕ) (text : Bytes) → Lacks b text → Lacks b (take n text)
Lacks-take b zero text h = tt
Lacks-take b (suc n) [] h = tt
Lacks-take b (suc n) (a ∷ text) h = (h.0, Lacks-take b n text h.1)

Lacks-drop : (b n : ℕ) (text : Bytes) → Lacks b text → Lacks b (drop n text)
Lacks-drop b zero text h = h
Lacks-drop b (suc n) [] h = tt
Lacks-drop b (suc n) (a ∷ text) h = Lacks-drop b n text h.1

escaped_byte : (b : ℕ) (text : Bytes) → b ≢ LF → Lacks LF (escaped text) → (b ≡ CR) ⊎ (b ≡ CR → ⊥)
    → Lacks LF (escaped (b ∷ text))
escaped_byte b text no_lf h (inl e) =
    rw (eq-eqb b CR e) ((λ q. omega arith), ((λ q. omega arith), h))
escaped_byte b text no_lf h (inr ne) = rw (ne_eqb b CR ne) (no_lf, h)

pub Lacks-escaped : (text : Bytes) → Lacks LF text → Lacks LF (escaped text)
Lacks-escaped [] h = tt
Lacks-escaped (b ∷ text) h = escaped_byte b text h.0 (Lacks-escaped text h.1) (cases_eq b CR)

-- U+FFFD has no byte of ASCII
pub Lacks-utf8_lossy : (b : ℕ) → b < 128 → (text : Bytes) → Lacks b text
    → Lacks b (utf8_lossy text)
Lacks-utf8_lossy b low text = utf8_lossy-keeps (λ text found. Lacks b text → Lacks b found)
    (λ text utf8 h. h)
    (λ text more less lacks_more h.
    let n : ℕ = utf8_valid_len text in
    Lacks-append b (take n text) (replacement_bytes ++ more) (Lacks-take b n text h) (
      (λ e. omega arith),
      (
        (λ e. omega arith),
        (
          (λ e. omega arith),
          lacks_more (Lacks-drop b (n + utf8_invalid_len (drop n text)) text h),
        ),
      ),
    )) text

lacks_after_space : (front path : Bytes) → Lacks LF (front ++ SP ∷ path) → Lacks LF path
lacks_after_space [] path h = h.1
lacks_after_space (b ∷ front) path h = lacks_after_space front path h.1

pub Lacks-path_of : (text : Bytes) → Lacks LF text → Lacks LF (path_of text)
Lacks-path_of text h = path_of-keeps (Lacks LF) tt lacks_after_space text h

pub Lacks-name : (name : Bytes) → IsUpperCaseName name → Lacks LF name
Lacks-name [] h = tt
Lacks-name (b ∷ name) h = ((λ e. false≢true (sym h.0.0 ∙ ap is_separator e)), Lacks-name name h.1)

-- no digit is an LF or a CR
glyph_above : (b d : ℕ) → b < 48 → digit_glyph false d ≢ b
glyph_above b d h = cond_both (nat_lt d 10) (48 + d) (87 + d) (λ glyph. glyph ≢ b)
    (λ _ e. omega arith) (λ _ e. omega arith)

onto_lacks : (b k n : ℕ) (more : Bytes) → b < 48 → Lacks b more
    → Lacks b (digits_onto k 10 false n more)
onto_lacks b zero n more h l = l
onto_lacks b (suc k) n more h l =
    let next : Bytes = digit_glyph false (n % 10) ∷ more in
    let lacks_next : Lacks b next = (glyph_above b (n % 10) h, l) in
    cond_both (n / 10 == 0) next (digits_onto k 10 false (n / 10) next) (Lacks b) (λ _. lacks_next)
    (λ _. onto_lacks b k (n / 10) next h lacks_next)

pub Lacks-decimal : (b n : ℕ) → b < 48 → Lacks b (decimal n)
unfolding digits
Lacks-decimal b n h = onto_lacks b 64 n [] h tt
