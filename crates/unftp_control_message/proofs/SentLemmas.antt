-- Bytes that are sent for a value.
use Rattle.std.proofs.Common.{◌≡◌, ◌≢◌, ℕ, ◌+◌, ◌*◌, ◌≤◌, ◌<◌, Bool, true, false, cond, ◌==◌, ◌&&◌, [], ◌∷◌, ◌++◌, length, take, drop, replicate, get_or, refl, sym, ap, subst, ◌∙◌, arith, append_assoc, append-nil, length-drop, ne_eqb, eqb-true, take_all, drop-cons, zero, suc}
use Rattle.std.proofs.lemmas.List.{take-append-drop, take_more}
use Rattle.std.proofs.lemmas.Bool.{and_parts, false≢true}
use Rattle.unftp_control_defs.specs.Bytes.{Bytes, NUL, CR, Lacks}
use Rattle.unftp_control_defs.proofs.LossyLemmas.{kept-utf8_lossy}
use Rattle.std.specs.Str.Lossy.{utf8_lossy}
use Rattle.std.proofs.lemmas.Str.{utf8_lossy-IsUtf8, utf8_lossy_empty}
use Rattle.unftp_control_message.specs.SentValues.{after_nul, begins_with_cr_nul, cr_nul_count, first_unit_len, unescaped}

pub unescaped_byte : (a : ℕ) (bytes : Bytes) → a ≢ CR → unescaped (a ∷ bytes) ≡ a ∷ unescaped bytes
unescaped_byte a [] h = refl
unescaped_byte a (b ∷ bytes) h = rw (ne_eqb a CR h) refl

pub unescaped_front : (front more : Bytes) → Lacks CR front
    → unescaped (front ++ more) ≡ front ++ unescaped more
unescaped_front [] more h = refl
unescaped_front (a ∷ front) more h =
    unescaped_byte a (front ++ more) h.0 ∙ ap (λ t. a ∷ t) (unescaped_front front more h.1)

pub unescaped_lacking : (bytes : Bytes) → Lacks CR bytes → unescaped bytes ≡ bytes
unescaped_lacking bytes h = ap unescaped (sym (append-nil bytes)) ∙ unescaped_front bytes [] h
    ∙ append-nil bytes

-- a CR at the front, and what comes after it
pub returned : (bytes : Bytes) → unescaped (CR ∷ bytes) ≡ CR ∷ unescaped (after_nul bytes)
returned [] = refl
returned (b ∷ bytes) = by_nul (b == NUL)
  where
    by_nul : (test : Bool) → cond test (CR ∷ unescaped bytes) (CR ∷ unescaped (b ∷ bytes))
        ≡ CR ∷ unescaped (cond test bytes (b ∷ bytes))
    by_nul true = refl
    by_nul false = refl

pub lacks_before : (test : ℕ → Bool) → test CR ≡ true → (bytes : Bytes) (n : ℕ) → n ≤ length bytes
    → ((k : ℕ) → 0 ≤ k → k < n → ¬ (test (get_or bytes k 0) ≡ true)) → Lacks CR (take n bytes)
lacks_before test stops bytes zero h none = tt
lacks_before test stops [] (suc n) h none = tt
lacks_before test stops (b ∷ bytes) (suc n) h none = (
  λ is. none 0 (omega arith) (omega arith) (ap test is ∙ stops),
  lacks_before test stops bytes n (omega arith)
      (λ k _ lt. none (suc k) (omega arith) (omega arith)),
)

pub lacks_all : (bytes : Bytes)
    → ((k : ℕ) → 0 ≤ k → k < length bytes → ¬ ((get_or bytes k 0 == CR) ≡ true))
    → Lacks CR bytes
lacks_all bytes none = subst (Lacks CR) (take_all (length bytes) bytes (omega arith))
    (lacks_before (λ b. b == CR) refl bytes (length bytes) (omega arith) none)

-- up to the first CR
pub unescaped_at : (bytes : Bytes) (n : ℕ) → n < length bytes
    → (get_or bytes n 0 == CR) ≡ true
    → ((k : ℕ) → 0 ≤ k → k < n → ¬ ((get_or bytes k 0 == CR) ≡ true))
    → unescaped bytes ≡ take (n + 1) bytes ++ unescaped (after_nul (drop (n + 1) bytes))
unescaped_at bytes n lt test none =
    let front : Bytes = take n bytes in
    let back : Bytes = drop (n + 1) bytes in
    let k : suc n ≡ n + 1 = omega arith in
    let is : get_or bytes n 0 ≡ CR = eqb-true (get_or bytes n 0) CR test in
    let whole : bytes ≡ front ++ CR ∷ back = sym (take-append-drop n bytes)
    ∙ ap (λ t. front ++ t) (drop-cons bytes n 0 lt
    ∙ (λ i. is i ∷ drop (k i) bytes)) in
    ap unescaped whole
    ∙ unescaped_front front (CR ∷ back)
    (lacks_before (λ b. b == CR) refl bytes n (omega arith) none)
    ∙ ap (λ t. front ++ t) (returned back)
    ∙ sym (append_assoc front (CR ∷ []) (unescaped (after_nul back)))
    ∙ ap (λ t. t ++ unescaped (after_nul back))
    (ap (λ x. front ++ x ∷ []) (sym is) ∙ sym (take_more bytes n 0 lt))

after_nul-short : (bytes : Bytes) → length (after_nul bytes) ≤ length bytes
after_nul-short [] = omega arith
after_nul-short (b ∷ bytes) = by_nul (b == NUL)
  where
    by_nul : (test : Bool) → length (cond test bytes (b ∷ bytes)) ≤ length (b ∷ bytes)
    by_nul true = omega arith
    by_nul false = omega arith

pub rest_short : (bytes rest further : Bytes) (n : ℕ) → n < length bytes
    → rest ≡ drop (n + 1) bytes → further ≡ after_nul rest
    → n + 1 + length further ≤ length bytes
rest_short bytes rest further n lt is after =
    omega (arith, ap length is, length-drop (n + 1) bytes, ap length after, after_nul-short rest)

pub cr_nul_front : (bytes : Bytes) → begins_with_cr_nul bytes ≡ true
    → bytes ≡ CR ∷ NUL ∷ drop 2 bytes
cr_nul_front [] h = absurd (false≢true h)
cr_nul_front (a ∷ []) h = absurd (false≢true h)
cr_nul_front (a ∷ b ∷ bytes) h =
    let parts = and_parts (a == CR) (b == NUL) h in
    let is_cr = eqb-true a CR parts.0 in
    let is_nul = eqb-true b NUL parts.1 in
    λ i. is_cr i ∷ is_nul i ∷ bytes

-- a run of CR NUL, and what is sent after it
pub unescaped_run : (bytes : Bytes)
    → unescaped bytes
    ≡ replicate (cr_nul_count bytes) CR ++ unescaped (drop (2 * cr_nul_count bytes) bytes)
unescaped_run [] = refl
unescaped_run (a ∷ []) = refl
unescaped_run (a ∷ b ∷ bytes) = by_test (unescaped_run bytes) ((a == CR) && (b == NUL)) refl
  where
    by_test : unescaped bytes
        ≡ replicate (cr_nul_count bytes) CR ++ unescaped (drop (2 * cr_nul_count bytes) bytes)
        → (test : Bool) → ((a == CR) && (b == NUL)) ≡ test
        → cond test (CR ∷ unescaped bytes) (a ∷ unescaped (b ∷ bytes))
        ≡ replicate (cond test (1 + cr_nul_count bytes) 0) CR
        ++ unescaped (drop (2 * cond test (1 + cr_nul_count bytes) 0) (a ∷ b ∷ bytes))
    by_test more true e =
        let twice : 2 * (1 + cr_nul_count bytes) ≡ suc (suc (2 * cr_nul_count bytes)) = omega arith in
        let next : 1 + cr_nul_count bytes ≡ suc (cr_nul_count bytes) = omega arith in
        rw (twice, next) (ap (λ t. CR ∷ t) more)
    by_test more false e = rw e refl

pub some_in_run : (bytes : Bytes) → begins_with_cr_nul bytes ≡ true → 1 ≤ cr_nul_count bytes
some_in_run [] begins = absurd (cc)
some_in_run (a ∷ []) begins = absurd (cc)
some_in_run (a ∷ b ∷ bytes) begins = rw begins (omega arith)

-- what a value has so far, with the carriage returns of a run after it
pub with_run : (sent value filled rest part : Bytes) (n m : ℕ)
    → unescaped sent ≡ value ++ unescaped rest → part ≡ drop (2 * cr_nul_count rest) rest
    → length value ≤ n → m ≡ cr_nul_count rest → filled ≡ take n value ++ replicate m CR
    → unescaped sent ≡ filled ++ unescaped part
with_run sent value filled rest part n m so_far after within count is =
    let fills : filled ≡ value ++ replicate (cr_nul_count rest) CR =
    is ∙ (λ i. take_all n value within i ++ replicate (count i) CR) in
    so_far ∙ ap (λ t. value ++ t) (unescaped_run rest)
    ∙ sym (append_assoc value (replicate (cr_nul_count rest) CR)
    (unescaped (drop (2 * cr_nul_count rest) rest)))
    ∙ (λ i. sym fills i ++ unescaped (sym after i))

-- its first byte, and what is sent for the others
pub unescaped_step : (bytes : Bytes) → 0 < length bytes
    → unescaped bytes ≡ get_or bytes 0 0 ∷ unescaped (drop (first_unit_len bytes) bytes)
unescaped_step [] some = absurd (omega arith)
unescaped_step (a ∷ []) some = refl
unescaped_step (a ∷ b ∷ bytes) some = by_test ((a == CR) && (b == NUL)) refl
  where
    by_test : (test : Bool) → ((a == CR) && (b == NUL)) ≡ test
        → cond test (CR ∷ unescaped bytes) (a ∷ unescaped (b ∷ bytes))
        ≡ a ∷ unescaped (drop (cond test 2 1) (a ∷ b ∷ bytes))
    by_test true e = ap (λ x. x ∷ unescaped bytes)
        (sym (eqb-true a CR (and_parts (a == CR) (b == NUL) e).0))
    by_test false e = refl

longer : (t : Bytes) → t ≢ [] → 0 < length t
longer [] some = absurd (some (λ i. []))
longer (b ∷ t) some = omega arith

pub some_lossy : (v : Bytes) → 0 < length v → 0 < length (utf8_lossy v)
some_lossy v some =
    longer (utf8_lossy v) (kept-utf8_lossy v (λ none. omega (arith, some, ap length none)))

pub ruleset texts = (some_lossy, utf8_lossy-IsUtf8, utf8_lossy_empty)
