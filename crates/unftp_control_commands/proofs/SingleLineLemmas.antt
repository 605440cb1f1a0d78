-- A text in one line is read back.
use Rattle.std.proofs.Common.{◌≡◌, ◌≢◌, ℕ, ◌==◌, if◌then◌else◌, [], ◌∷◌, ◌⊎◌, inl, inr, refl, sym, ap, ◌∙◌, arith, eq-eqb, ne_eqb}
use Rattle.std.proofs.lemmas.Bool.{cases_eq}
use Rattle.unftp_control_defs.specs.Bytes.{Bytes, NUL, LF, CR, Lacks}
use Rattle.unftp_control_commands.specs.ReplyTexts.{single_line}

-- a byte's first byte in the line, and what follows it
abbrev first : ℕ → ℕ
first b = if b == LF then NUL else b

abbrev followed : ℕ → Bytes → Bytes
followed b line = if b == CR then NUL ∷ line else line

cons_by : (b : ℕ) (text : Bytes) → (b ≡ CR) ⊎ (b ≡ CR → ⊥)
    → single_line (b ∷ text) ≡ first b ∷ followed b (single_line text)
cons_by b text (inl e) = rw (eq-eqb b CR e, e) refl
cons_by b text (inr ne) = rw (ne_eqb b CR ne) refl

single_line-cons : (b : ℕ) (text : Bytes)
    → single_line (b ∷ text) ≡ first b ∷ followed b (single_line text)
single_line-cons b text = cons_by b text (cases_eq b CR)

-- no first byte is LF, and without NUL it is that of one byte
first-not_lf : (b : ℕ) → (b ≡ LF) ⊎ (b ≡ LF → ⊥) → first b ≢ LF
first-not_lf b (inl e) = rw (eq-eqb b LF e) (λ q. omega arith)
first-not_lf b (inr ne) = rw (ne_eqb b LF ne) ne

first-injective : {a b : ℕ} → a ≢ NUL → b ≢ NUL → (a ≡ LF) ⊎ (a ≡ LF → ⊥) → (b ≡ LF) ⊎ (b ≡ LF → ⊥)
    → first a ≡ first b → a ≡ b
first-injective p q (inl x) (inl y) e = x ∙ sym y
first-injective {a} {b} p q (inl x) (inr y) e =
    let zero : NUL ≡ b = rw (eq-eqb a LF x, ne_eqb b LF y) at e in absurd (q (sym zero))
first-injective {a} {b} p q (inr x) (inl y) e =
    let zero : a ≡ NUL = rw (ne_eqb a LF x, eq-eqb b LF y) at e in absurd (p zero)
first-injective {a} {b} p q (inr x) (inr y) e = rw (ne_eqb a LF x, ne_eqb b LF y) at e

followed-lacks : (b : ℕ) (line : Bytes) → Lacks LF line → (b ≡ CR) ⊎ (b ≡ CR → ⊥)
    → Lacks LF (followed b line)
followed-lacks b line h (inl e) = rw (eq-eqb b CR e) ((λ q. omega arith), h)
followed-lacks b line h (inr ne) = rw (ne_eqb b CR ne) h

followed-injective : {b : ℕ} {line other : Bytes} → (b ≡ CR) ⊎ (b ≡ CR → ⊥)
    → followed b line ≡ followed b other → line ≡ other
followed-injective {b} {line} {other} (inl x) e =
    let same : NUL ∷ line ≡ NUL ∷ other = rw (eq-eqb b CR x) at e in cc
followed-injective {b} (inr x) e = rw (ne_eqb b CR x) at e

pub Lacks-single_line : (text : Bytes) → Lacks LF (single_line text)
Lacks-single_line [] = tt
Lacks-single_line (b ∷ text) =
    rw (single_line-cons b text) (
      first-not_lf b (cases_eq b LF),
      followed-lacks b (single_line text)
          (Lacks-single_line text) (cases_eq b CR),
    )

pub single_line-injective : (text other : Bytes) → Lacks NUL text → Lacks NUL other
    → single_line text ≡ single_line other → text ≡ other
single_line-injective [] [] h g e = refl
single_line-injective [] (b ∷ other) h g e =
    let no : [] ≡ first b ∷ followed b (single_line other) = e ∙ single_line-cons b other in cc
single_line-injective (a ∷ text) [] h g e =
    let no : first a ∷ followed a (single_line text) ≡ [] = sym (single_line-cons a text) ∙ e in cc
single_line-injective (a ∷ text) (b ∷ other) h g e =
    let both : first a ∷ followed a (single_line text) ≡ first b ∷ followed b (single_line other)
    = sym (single_line-cons a text) ∙ e ∙ single_line-cons b other in
    let same : a ≡ b = first-injective h.0 g.0 (cases_eq a LF) (cases_eq b LF) (cc) in
    let after : followed a (single_line text) ≡ followed b (single_line other) = cc in
    let after_one : followed b (single_line text) ≡ followed b (single_line other) =
    ap (λ x. followed x (single_line text)) (sym same) ∙ after in
    let rest : single_line text ≡ single_line other =
    followed-injective (cases_eq b CR) after_one in
    let later : text ≡ other = single_line-injective text other h.1 g.1 rest in
    cc
