-- A text that is written to an area piece by piece.
use Rattle.std.proofs.Common.{◌≡◌, ◌≤◌, ◌<◌, ◌+◌, ℕ, zero, suc, [], ◌∷◌, ◌++◌, ◌==◌, true, length, take, drop, get_or, refl, sym, ap, subst, ◌∙◌, arith, append_assoc, length-append, take_all, drop-cons, eq-eqb, eqb-true}
use Rattle.std.proofs.lemmas.List.{drop-drop, take-append-drop}
use Rattle.unftp_control_defs.specs.Bytes.{Bytes, Lacks}
use Rattle.unftp_control_commands.specs.Areas.{HasText, overwritten}

-- ---- where a byte cuts a text

lacks_before : (b : ℕ) (bytes : Bytes) (n : ℕ) → n ≤ length bytes
    → ((k : ℕ) → 0 ≤ k → k < n → ¬ ((get_or bytes k 0 == b) ≡ true)) → Lacks b (take n bytes)
lacks_before b bytes zero h none = tt
lacks_before b [] (suc n) h none = tt
lacks_before b (x ∷ bytes) (suc n) h none = (
  λ is. none 0 (omega arith) (omega arith) (eq-eqb x b is),
  lacks_before b bytes n (omega arith) (λ k _ lt. none (suc k) (omega arith) (omega arith)),
)

pub lacks_all : (b : ℕ) (bytes : Bytes)
    → ((k : ℕ) → 0 ≤ k → k < length bytes → ¬ ((get_or bytes k 0 == b) ≡ true)) → Lacks b bytes
lacks_all b bytes none = subst (Lacks b) (take_all (length bytes) bytes (omega arith))
    (lacks_before b bytes (length bytes) (omega arith) none)

pub cut_at : (b : ℕ) (bytes : Bytes) (n : ℕ) → n < length bytes
    → (get_or bytes n 0 == b) ≡ true
    → ((k : ℕ) → 0 ≤ k → k < n → ¬ ((get_or bytes k 0 == b) ≡ true))
    → Lacks b (take n bytes) × (bytes ≡ take n bytes ++ b ∷ drop (n + 1) bytes)
cut_at b bytes n lt test none =
    let next : suc n ≡ n + 1 = omega arith in
    let is : get_or bytes n 0 ≡ b = eqb-true (get_or bytes n 0) b test in (
      lacks_before b bytes n (omega arith) none,
      sym (take-append-drop n bytes) ∙ ap (λ t. take n bytes ++ t) (drop-cons bytes n 0 lt
          ∙ (λ i. is i ∷ drop (next i) bytes)),
    )

-- ---- what a piece adds

-- two texts
pub one_after_the_other : (text next area : Bytes)
    → text ++ overwritten next (drop (length text) area) ≡ overwritten (text ++ next) area
one_after_the_other text next area = simp (append_assoc, drop-drop, length-append)

-- before any piece
pub nothing : (start : Bytes) → HasText start [] start 0
nothing start = record { same_length = refl; counts = refl; is = λ _. refl }
