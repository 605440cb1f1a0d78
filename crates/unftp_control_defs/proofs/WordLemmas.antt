-- The words of the verbs, and how they are looked up.
use Rattle.std.proofs.Common.{◌≡◌, ℕ, cond, option_map, is_some, Bool, true, false, bytes_eq, find, ◌==◌, ◌&&◌, ◌<◌, ◌≤◌, List, [], ◌∷◌, length, get_or, Some, None, refl, sym, ap, subst, ◌∙◌, ⊎_elim, arith, eq-eqb, eqb-true, w32}
use lib.Pointwise.{bytes_decides}
use Rattle.std.specs.Int.{from_be_bytes, to_be_bytes}
use Rattle.std.specs.List.{list_all}
use Rattle.std.proofs.lemmas.Bool.{cases_Bool, and_parts, false≢true}
use Rattle.std.proofs.lemmas.Bool.Decides.{nat_tests}
use Rattle.std.proofs.lemmas.Nat.{be_bytes_4}
use Rattle.unftp_control_defs.specs.Bytes.{Bytes}
use Rattle.std.specs.Char.{to_ascii_uppercase}
use Rattle.unftp_control_defs.specs.Verbs.{upper}
use Rattle.unftp_control_defs.specs.FtpCommand.{verbs}
use Rattle.unftp_control_defs.specs.Rules.{row_of}
use Rattle.unftp_control_defs.specs.declared.verb.Verb.{Verb}
use Rattle.unftp_control_defs.specs.Words.{to_four_bytes, from_four_bytes, padded_word, verb_of_number, word_number}

some_is : {X : Type 0} {x y : X} → Some x ≡ Some y → x ≡ y
some_is e = cc

none_some : {X : Type 0} {x : X} → None ≡ Some x → ⊥
none_some e = cc

pub from_four_bytes_back : (word w : Bytes) → to_four_bytes word ≡ Some w → from_four_bytes w ≡ word
from_four_bytes_back [] w e = cc
from_four_bytes_back (a ∷ []) w e = cc
from_four_bytes_back (a ∷ b ∷ []) w e = cc
from_four_bytes_back (a ∷ b ∷ c ∷ []) w e = subst (λ x. from_four_bytes x ≡ a ∷ b ∷ c ∷ [])
    (some_is e) refl
from_four_bytes_back (a ∷ b ∷ c ∷ d ∷ []) w e = ⊎_elim
    (λ t. absurd (none_some (rw t at e)))
    (λ f. subst (λ x. from_four_bytes x ≡ a ∷ b ∷ c ∷ d ∷ []) (some_is (rw f at e)) (rw f refl))
    (cases_Bool (d == 0))
from_four_bytes_back (a ∷ b ∷ c ∷ d ∷ e ∷ word) w h = cc

-- a name that doesn't pass the test that each row's passes has no row
pub none_of : (p : Bytes → Bool) (name : Bytes) (rows : List (Bytes × Verb))
    → list_all (λ row. p row.0) rows ≡ true → p name ≡ false → row_of name rows ≡ None
none_of p name [] all none = refl
none_of p name (row ∷ rows) all none =
    let parts = and_parts (p row.0) (list_all (λ row. p row.0) rows) all in
    ⊎_elim
    (λ t. absurd (false≢true (sym none ∙ ap p ((bytes_decides name row.0).0 t) ∙ parts.0)))
    (λ f. rw f (none_of p name rows parts.1 none))
    (cases_Bool (bytes_eq name row.0))

-- each verb has three or four bytes
all_fit : list_all (λ row. is_some (to_four_bytes row.0)) verbs ≡ true
all_fit = refl

pub no_verb : (name : Bytes) → to_four_bytes name ≡ None → row_of name verbs ≡ None
no_verb name e = none_of (λ w. is_some (to_four_bytes w)) name verbs all_fit (ap is_some e)

-- a name that is found by its number
abbrev has_number : Bytes → Bool
has_number name = bytes_eq (to_be_bytes w32 (word_number name)) (padded_word name)
    && bytes_eq (from_four_bytes (padded_word name)) name

all_have_numbers : list_all (λ row. has_number row.0) verbs ≡ true
all_have_numbers = refl

padded_back : (word : Bytes) → length word ≡ 4 → padded_word (from_four_bytes word) ≡ word
padded_back [] l = absurd (omega arith)
padded_back (a ∷ []) l = absurd (omega arith)
padded_back (a ∷ b ∷ []) l = absurd (omega arith)
padded_back (a ∷ b ∷ c ∷ []) l = absurd (omega arith)
padded_back (a ∷ b ∷ c ∷ d ∷ []) l = ⊎_elim
    (λ t. rw t (ap (λ x. a ∷ b ∷ c ∷ x ∷ []) (sym (eqb-true d 0 t))))
    (λ f. rw f refl)
    (cases_Bool (d == 0))
padded_back (a ∷ b ∷ c ∷ d ∷ e ∷ word) l = absurd (omega arith)

module _ (word : Bytes) (long : length word ≡ 4) (small : (i : ℕ) → get_or word i 0 < 256) where
  abbrev number : ℕ
  number = from_be_bytes w32 word

  named : (name : Bytes) → has_number name ≡ true → number ≡ word_number name
      → from_four_bytes word ≡ name
  named name has e =
      let parts = and_parts _ _ has in
      let same : word ≡ padded_word name =
      sym (be_bytes_4 word number long small refl) ∙ ap (to_be_bytes w32) e
      ∙ (bytes_decides _ _).0 parts.0 in
      ap from_four_bytes same ∙ (bytes_decides _ _).0 parts.1

  numbered : (name : Bytes) → from_four_bytes word ≡ name → number ≡ word_number name
  numbered name e = ap (from_be_bytes w32) (sym (padded_back word long) ∙ ap padded_word e)

  same_test : (name : Bytes) → has_number name ≡ true
      → (number == word_number name) ≡ bytes_eq (from_four_bytes word) name
  same_test name has = ⊎_elim
      (λ t. t ∙ sym ((bytes_decides _ _).1 (named name has (eqb-true _ _ t))))
      (λ f. f ∙ sym (other f))
      (cases_Bool (number == word_number name))
    where
      other : (number == word_number name) ≡ false → bytes_eq (from_four_bytes word) name ≡ false
      other f = ⊎_elim
          (λ t. absurd (false≢true (sym f ∙ eq-eqb _ _ (numbered name ((bytes_decides _ _).0 t)))))
          (λ g. g)
          (cases_Bool (bytes_eq (from_four_bytes word) name))

  same_rows : (rows : List (Bytes × Verb)) → list_all (λ row. has_number row.0) rows ≡ true
      → option_map (λ row. row.1) (find (λ row. number == word_number row.0) rows)
      ≡ row_of (from_four_bytes word) rows
  same_rows [] all = refl
  same_rows (row ∷ rows) all =
      let parts = and_parts (has_number row.0) (list_all (λ row. has_number row.0) rows) all in
      rw (same_test row.0 parts.0) (⊎_elim
      (λ t. rw t refl)
      (λ f. rw f (same_rows rows parts.1))
      (cases_Bool (bytes_eq (from_four_bytes word) row.0)))

  -- a verb is found by its number
  pub verb_of_word : verb_of_number number ≡ row_of (from_four_bytes word) verbs
  verb_of_word = same_rows verbs all_have_numbers

-- a word is padded in the same way in upper case
uppercased_nul : (b : ℕ) → (to_ascii_uppercase b == 0) ≡ (b == 0)
uppercased_nul b = grind (arith, nat_tests)

to_four_bytes_upper : (word : Bytes)
    → to_four_bytes (upper word) ≡ option_map upper (to_four_bytes word)
to_four_bytes_upper [] = refl
to_four_bytes_upper (a ∷ []) = refl
to_four_bytes_upper (a ∷ b ∷ []) = refl
to_four_bytes_upper (a ∷ b ∷ c ∷ []) = refl
to_four_bytes_upper (a ∷ b ∷ c ∷ d ∷ []) = rw (uppercased_nul d) (by_nul (d == 0))
  where
    by_nul : (t : Bool) → cond t None (Some (upper (a ∷ b ∷ c ∷ d ∷ []))) ≡ option_map upper
        (cond t None (Some (a ∷ b ∷ c ∷ d ∷ [])))
    by_nul true = refl
    by_nul false = refl
to_four_bytes_upper (a ∷ b ∷ c ∷ d ∷ e ∷ word) = refl

pub from_four_bytes_upper : (word w : Bytes) → to_four_bytes word ≡ Some w
    → from_four_bytes (upper w) ≡ upper word
from_four_bytes_upper word w e = from_four_bytes_back (upper word) (upper w)
    (to_four_bytes_upper word ∙ ap (option_map upper) e)

pub no_verb_upper : (word : Bytes) → to_four_bytes word ≡ None → row_of (upper word) verbs ≡ None
no_verb_upper word e = no_verb (upper word) (to_four_bytes_upper word ∙ ap (option_map upper) e)

all_upper : list_all (λ row. bytes_eq (upper row.0) row.0) verbs ≡ true
all_upper = refl

-- a verb is found as it is, and so in upper case
verb_upper : (word : Bytes) (verb : Verb) → row_of word verbs ≡ Some verb → upper word ≡ word
verb_upper word verb found = ⊎_elim
    (λ t. (bytes_decides (upper word) word).0 t)
    (λ f. absurd (none_some
    (sym (none_of (λ w. bytes_eq (upper w) w) word verbs all_upper f) ∙ found)))
    (cases_Bool (bytes_eq (upper word) word))

pub found_upper : (word w : Bytes) (verb : Verb) → to_four_bytes word ≡ Some w
    → row_of (from_four_bytes w) verbs ≡ Some verb → row_of (upper word) verbs ≡ Some verb
found_upper word w verb e found =
    let as_it_is : row_of word verbs ≡ Some verb =
    subst (λ x. row_of x verbs ≡ Some verb) (from_four_bytes_back word w e) found in
    ap (λ x. row_of x verbs) (verb_upper word verb as_it_is) ∙ as_it_is

-- a word of four bytes needs no padding
pub four_bytes : (word : Bytes) → 4 ≤ length word → length word < 5
    → (get_or word 3 0 == 0) ≡ false → to_four_bytes word
    ≡ Some (get_or word 0 0 ∷ get_or word 1 0 ∷ get_or word 2 0 ∷ get_or word 3 0 ∷ [])
four_bytes (a ∷ b ∷ c ∷ d ∷ []) long short some = rw some refl
four_bytes (a ∷ b ∷ c ∷ d ∷ e ∷ word) long short some = absurd (omega arith)
four_bytes (a ∷ b ∷ c ∷ []) long short some = absurd (omega arith)
four_bytes (a ∷ b ∷ []) long short some = absurd (omega arith)
four_bytes (a ∷ []) long short some = absurd (omega arith)
four_bytes [] long short some = absurd (omega arith)

-- how a word is looked up
pub ruleset words =
    (from_four_bytes_back, from_four_bytes_upper, no_verb, no_verb_upper, found_upper)
