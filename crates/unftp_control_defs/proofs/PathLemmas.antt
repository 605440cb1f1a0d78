-- A text has one path, which `path_of` computes.
use Rattle.std.proofs.Common.{◌≡◌, ◌≢◌, ℕ, Bool, true, false, not, ◌==◌, ◌&&◌, List, [], ◌∷◌, ◌++◌, flat_map, drop, ◌⊎◌, refl, sym, ap, subst, ◌∙◌, inl, inr, ⊎_elim, append_assoc, arith, bytes_eq, nat_eq, ne_eqb, eqb-true}
use borrow.Author.Tests.{eqb-false}
use Rattle.std.specs.List.{AllByRecursion, starts_with}
use Rattle.std.proofs.lemmas.Bool.{cases_Bool, cases_eq, and_parts, false≢true}
use lib.Pointwise.{bytes_decides}
use Rattle.unftp_control_defs.specs.Bytes.{Bytes, SP, DASH, Lacks}
use Rattle.unftp_control_defs.specs.Paths.{IsOptionWord, with_space, EndsInPath, ListPath, path_from, path_of}

-- within an option word
skip_word : (letters more : Bytes) → Lacks SP letters → path_from true (letters ++ SP ∷ more)
    ≡ path_from false more
skip_word [] more h = refl
skip_word (b ∷ letters) more h = ap (λ t. path_from (not t) (letters ++ SP ∷ more))
    (ne_eqb b SP h.0) ∙ skip_word letters more h.1

skip_last : (letters : Bytes) → Lacks SP letters → path_from true letters ≡ []
skip_last [] h = refl
skip_last (b ∷ letters) h = ap (λ t. path_from (not t) letters) (ne_eqb b SP h.0)
    ∙ skip_last letters h.1

-- the test for "- " after a dash
pub dash_space : (bytes : Bytes) → starts_with nat_eq bytes (DASH ∷ SP ∷ []) ≡ true
    → bytes ≡ DASH ∷ SP ∷ drop 2 bytes
dash_space [] h = absurd (false≢true h)
dash_space (b ∷ []) h = absurd (false≢true (sym (and_false (DASH == b)) ∙ h))
  where
    and_false : (x : Bool) → (x && false) ≡ false
    and_false true = refl
    and_false false = refl
dash_space (b ∷ c ∷ bytes) h =
    let p = and_parts (DASH == b) ((SP == c) && true) h in
    let q = and_parts (SP == c) true p.1 in
    let is_dash : b ≡ DASH = sym (eqb-true DASH b p.0) in
    let is_space : c ≡ SP = sym (eqb-true SP c q.0) in
    λ i. is_dash i ∷ (is_space i ∷ bytes)

unless : (b : Bool) → (b ≡ true → ⊥) → b ≡ false
unless true h = absurd (h refl)
unless false h = refl

-- a word with a dash in front that is neither "--" nor "-- " at the start
word_step : (bytes : Bytes) → (bytes ≡ DASH ∷ [] → ⊥)
    → ((more : Bytes) → bytes ≡ DASH ∷ SP ∷ more → ⊥)
    → path_from false (DASH ∷ bytes) ≡ path_from true bytes
word_step bytes alone front =
    let a : bytes_eq bytes (DASH ∷ []) ≡ false =
    unless _ (λ t. alone ((bytes_decides bytes (DASH ∷ [])).0 t)) in
    let f : starts_with nat_eq bytes (DASH ∷ SP ∷ []) ≡ false =
    unless _ (λ t. front (drop 2 bytes) (dash_space bytes t)) in
    rw (a, f)

no_alone : (letters more : Bytes) → letters ++ SP ∷ more ≡ DASH ∷ [] → ⊥
no_alone [] more h = let e : SP ≡ DASH = cc in omega arith
no_alone (b ∷ []) more h = let e : SP ∷ more ≡ [] = cc in cc
no_alone (b ∷ c ∷ letters) more h = let e : c ∷ (letters ++ SP ∷ more) ≡ [] = cc in cc

no_front : (letters more : Bytes) {rest : Bytes} → Lacks SP letters
    → DASH ∷ letters ≢ DASH ∷ DASH ∷ []
    → letters ++ SP ∷ more ≡ DASH ∷ SP ∷ rest → ⊥
no_front [] more lacks ne h = let e : SP ≡ DASH = cc in omega arith
no_front (b ∷ []) more lacks ne h = let e : b ≡ DASH = cc in ne (ap (λ x. DASH ∷ x ∷ []) e)
no_front (b ∷ c ∷ letters) more lacks ne h = let e : c ≡ SP = cc in lacks.1.0 e

option_step : (word more : Bytes) → IsOptionWord word → path_from false (with_space word ++ more)
    ≡ path_from false more
option_step word more w =
    let whole : with_space word ++ more ≡ DASH ∷ (w.letters ++ SP ∷ more) =
    ap (λ t. with_space t ++ more) w.dash ∙ append_assoc (DASH ∷ w.letters) (SP ∷ []) more in
    let lacks : Lacks SP w.letters = (subst (Lacks SP) w.dash w.one_word).1 in
    let not_end : DASH ∷ w.letters ≢ DASH ∷ DASH ∷ [] = λ e. w.not_end (w.dash ∙ e) in
    ap (path_from false) whole
    ∙ word_step (w.letters ++ SP ∷ more) (no_alone w.letters more)
    (λ rest. no_front w.letters more lacks not_end)
    ∙ skip_word w.letters more lacks

last_option : (word : Bytes) → IsOptionWord word → path_from false word ≡ []
last_option word w =
    let lacks : Lacks SP w.letters = (subst (Lacks SP) w.dash w.one_word).1 in
    let alone : w.letters ≡ DASH ∷ [] → ⊥ = λ e. w.not_end (w.dash ∙ ap (λ t. DASH ∷ t) e) in
    let front : (more : Bytes) → w.letters ≡ DASH ∷ SP ∷ more
    → ⊥ = λ more e. (subst (Lacks SP) e lacks).1.0 refl in
    ap (path_from false) w.dash ∙ word_step w.letters alone front ∙ skip_last w.letters lacks

pub plain_path : (path : Bytes) → ((letters : Bytes) → path ≢ DASH ∷ letters)
    → path_from false path ≡ path
plain_path [] h = refl
plain_path (b ∷ path) h = let ne : b ≢ DASH = λ e. h path (ap (λ x. x ∷ path) e) in
    rw (ne_eqb b DASH ne)

tail_path : (tail path : Bytes) → EndsInPath tail path → path_from false tail ≡ path
tail_path tail path (inl p) = ap (path_from false) p.0 ∙ plain_path path p.1
tail_path tail path (inr (inl e)) = ap (path_from false) e
tail_path tail path (inr (inr p)) = ⊎_elim (λ w. last_option tail w ∙ sym p.0)
    (λ e. ap (path_from false) e ∙ sym p.0) p.1

from_options : (options : List Bytes) {tail path : Bytes} → AllByRecursion IsOptionWord options
    → EndsInPath tail path
    → path_from false (flat_map with_space options ++ tail) ≡ path
from_options [] {tail} {path} each end = tail_path tail path end
from_options (word ∷ options) {tail} {path} each end =
    ap (path_from false) (append_assoc (with_space word) (flat_map with_space options) tail)
    ∙ option_step word (flat_map with_space options ++ tail) each.0
    ∙ from_options options each.1 end

-- the path that a text has is the computed one
pub path_of-ListPath : (text path : Bytes) → ListPath text path → path_of text ≡ path
path_of-ListPath text path l = ap (path_from false) l.whole
    ∙ from_options l.options l.each l.end

-- The other way. Within a word: its letters, and then the end, or a space and a text with that
-- path.
record Skipped (text path : Bytes) : Type 0 where
  letters : Bytes
  lacks : Lacks SP letters
  goes_on : ((text ≡ letters) × (path ≡ []))
      ⊎ ((more : Bytes) × (text ≡ letters ++ SP ∷ more) × ListPath more path)

abbrev Follows : Bool → Bytes → Bytes → Type 0
Follows true text path = Skipped text path
Follows false text path = ListPath text path

space_skipped : (text path : Bytes) → ListPath text path → Skipped (SP ∷ text) path
space_skipped text path l = record { letters = []; lacks = tt; goes_on = inr (text, refl, l) }

letter_skipped : {b : ℕ} {text path : Bytes} → b ≢ SP → Skipped text path → Skipped (b ∷ text) path
letter_skipped {b} ne s = record {
  letters = b ∷ s.letters;
  lacks = (ne, s.lacks);
  goes_on = ⊎_elim (λ p. inl (ap (λ t. b ∷ t) p.0, p.1)) (λ p. inr (p.0, ap (λ t. b ∷ t) p.1, p.2))
      s.goes_on;
}

whole_tail : (text path : Bytes) → EndsInPath text path → ListPath text path
whole_tail text path e = record { options = []; tail = text; each = tt; whole = refl; end = e }

word_found : {text path : Bytes} → (text ≡ DASH ∷ [] → ⊥)
    → ((more : Bytes) → text ≡ DASH ∷ SP ∷ more → ⊥) → Skipped text path
    → ListPath (DASH ∷ text) path
word_found {text} {path} alone front s = by_rest s.goes_on
  where
    word : (DASH ∷ s.letters ≢ DASH ∷ DASH ∷ []) → IsOptionWord (DASH ∷ s.letters)
    word ne = record {
      letters = s.letters;
      dash = refl;
      one_word = ((λ e. omega arith), s.lacks);
      not_end = ne;
    }

    by_rest : ((text ≡ s.letters) × (path ≡ []))
        ⊎ ((more : Bytes) × (text ≡ s.letters ++ SP ∷ more) × ListPath more path)
        → ListPath (DASH ∷ text) path
    by_rest (inl p) =
        let ne : DASH ∷ s.letters ≢ DASH ∷ DASH ∷ [] = λ e. let f : s.letters ≡ DASH ∷ [] = cc in
        alone (p.0 ∙ f) in
        let here : IsOptionWord (DASH ∷ text) = subst (λ t. IsOptionWord (DASH ∷ t)) (sym p.0)
        (word ne) in
        whole_tail (DASH ∷ text) path (inr (inr (p.1, inl here)))
    by_rest (inr p) =
        let ne : DASH ∷ s.letters ≢ DASH ∷ DASH ∷ [] = λ e. let f : s.letters ≡ DASH ∷ [] = cc in
        front p.0 (p.1 ∙ ap (λ t. t ++ SP ∷ p.0) f) in
        let l = p.2 in
        record {
          options = (DASH ∷ s.letters) ∷ l.options;
          tail = l.tail;
          each = (word ne, l.each);
          whole = ap (λ t. DASH ∷ t) p.1 ∙ sym (append_assoc (DASH ∷ s.letters) (SP ∷ []) p.0)
              ∙ ap (λ t. with_space (DASH ∷ s.letters) ++ t) l.whole
              ∙ sym (append_assoc (with_space (DASH ∷ s.letters)) (flat_map with_space l.options)
              l.tail);
          end = l.end;
        }

module _ (b : ℕ) (text : Bytes) (further : (in_word : Bool)
    → Follows in_word text (path_from in_word text)) where
  in_word_found : Skipped (b ∷ text) (path_from true (b ∷ text))
  in_word_found = by_space (cases_Bool (b == SP))
    where
      by_space : ((b == SP) ≡ true) ⊎ ((b == SP) ≡ false)
          → Skipped (b ∷ text) (path_from true (b ∷ text))
      by_space (inl e) = subst (Skipped (b ∷ text)) (ap (λ t. path_from (not t) text) (sym e))
          (subst (λ x. Skipped (x ∷ text) (path_from false text)) (sym (eqb-true b SP e))
          (space_skipped text (path_from false text) (further false)))
      by_space (inr e) = subst (Skipped (b ∷ text)) (ap (λ t. path_from (not t) text) (sym e))
          (letter_skipped (eqb-false b SP e) (further true))

  dash_found : ListPath (DASH ∷ text) (path_from false (DASH ∷ text))
  dash_found = by_alone (cases_Bool (bytes_eq text (DASH ∷ [])))
    where
      by_front : bytes_eq text (DASH ∷ []) ≡ false
          → (starts_with nat_eq text (DASH ∷ SP ∷ []) ≡ true)
          ⊎ (starts_with nat_eq text (DASH ∷ SP ∷ []) ≡ false)
          → ListPath (DASH ∷ text) (path_from false (DASH ∷ text))
      by_front a (inl f) =
          rw (a, f)
          (whole_tail (DASH ∷ text) (drop 2 text)
          (inr (inl (ap (λ t. DASH ∷ t) (dash_space text f)))))
      by_front a (inr f) = rw (a, f) (word_found
          (λ e. false≢true (sym a ∙ (bytes_decides text (DASH ∷ [])).1 e))
          (λ more e. false≢true (sym f ∙ ap (λ t. starts_with nat_eq t (DASH ∷ SP ∷ [])) e))
          (further true))

      by_alone : (bytes_eq text (DASH ∷ []) ≡ true) ⊎ (bytes_eq text (DASH ∷ []) ≡ false)
          → ListPath (DASH ∷ text) (path_from false (DASH ∷ text))
      by_alone (inl a) =
          rw a (whole_tail (DASH ∷ text) []
          (inr (inr (refl, inr (ap (λ t. DASH ∷ t) ((bytes_decides text (DASH ∷ [])).0 a))))))
      by_alone (inr a) = by_front a (cases_Bool (starts_with nat_eq text (DASH ∷ SP ∷ [])))

  at_start_found : ListPath (b ∷ text) (path_from false (b ∷ text))
  at_start_found = by_dash (cases_eq b DASH)
    where
      by_dash : (b ≡ DASH) ⊎ (b ≡ DASH → ⊥) → ListPath (b ∷ text) (path_from false (b ∷ text))
      by_dash (inl e) = subst (λ x. ListPath (x ∷ text) (path_from false (x ∷ text)))
          (sym e) dash_found
      by_dash (inr ne) =
          rw (ne_eqb b DASH ne) (whole_tail (b ∷ text) (b ∷ text) (inl (refl, λ letters e. ne cc)))

path_follows : (in_word : Bool) (text : Bytes) → Follows in_word text (path_from in_word text)
path_follows true [] = record { letters = []; lacks = tt; goes_on = inl (refl, refl) }
path_follows false [] = whole_tail [] [] (inl (refl, λ letters e. cc))
path_follows true (b ∷ text) = in_word_found b text (λ in_word. path_follows in_word text)
path_follows false (b ∷ text) = at_start_found b text (λ in_word. path_follows in_word text)

-- each text has that path
pub ListPath-path_of : (text : Bytes) → ListPath text (path_of text)
ListPath-path_of text = path_follows false text

-- The path is nothing, the whole text, or what follows one of its spaces. So it keeps what those
-- keep.
module _ (Holds : Bytes → Type 0) (nothing : Holds []) (behind : (front path : Bytes)
    → Holds (front ++ SP ∷ path) → Holds path) where
  past_options : (options : List Bytes) (tail : Bytes) → Holds (flat_map with_space options ++ tail)
      → Holds tail
  past_options [] tail h = h
  past_options (word ∷ options) tail h =
      let more : Bytes = flat_map with_space options in
      let whole : (with_space word ++ more) ++ tail ≡ word ++ SP ∷ (more ++ tail) =
      append_assoc (with_space word) more tail ∙ append_assoc word (SP ∷ []) (more ++ tail) in
      past_options options tail (behind word (more ++ tail) (subst Holds whole h))

  at_end : (tail path : Bytes) → EndsInPath tail path → Holds tail → Holds path
  at_end tail path (inl p) h = subst Holds p.0 h
  at_end tail path (inr (inl e)) h = behind (DASH ∷ DASH ∷ []) path (subst Holds e h)
  at_end tail path (inr (inr p)) h = subst Holds (sym p.0) nothing

  pub path_of-keeps : (text : Bytes) → Holds text → Holds (path_of text)
  path_of-keeps text h = let l = ListPath-path_of text in
      at_end l.tail (path_of text) l.end (past_options l.options l.tail (subst Holds l.whole h))
