-- A parameter has at most one value, and `value_of` computes it.
use Rattle.std.proofs.Common.{◌≡◌, ◌≢◌, ℕ, Bool, true, false, not, IsTrue, ◌==◌, ◌&&◌, [], ◌∷◌, ◌⊎◌, Option, Some, None, bytes_eq, refl, sym, ap, subst, ◌∙◌, inl, inr, eq-eqb, ne_eqb, eqb-true}
use Rattle.std.proofs.lemmas.Bool.{cases_eq, and_parts, and_from, false≢true}
use Rattle.std.proofs.lemmas.Option.{none-some, same_Some}
use lib.Pointwise.{bytes_decides}
use Rattle.unftp_control_defs.specs.Bytes.{Bytes, NUL, LF, CR}
use Rattle.unftp_control_defs.specs.Values.{ReadsLater, ends_crlf, ends_lf, cr_nul, byte, Reads, nothing, ended, ended_crlf, one_byte, first_cr_nul, first_byte, HasNoValue}
use Rattle.unftp_control_defs.specs.ComputedValue.{Context, After, Returning, byte_then, later_value, first_value, value_of}

-- an LF is a byte of the value only where it is fresh
no_end : (fresh : Bool) {b : ℕ} → (b ≡ LF → IsTrue fresh) → (not fresh && (b == LF)) ≡ false
no_end true may = refl
no_end false {b} may = rw (ne_eqb b LF (λ e. false≢true (may e)))

pub later_is : {fresh : Bool} {bytes v : Bytes} → ReadsLater fresh bytes v
    → later_value (After fresh) bytes ≡ Some v
later_is ends_crlf = refl
later_is ends_lf = refl
later_is (cr_nul h) = rw (later_is h)
later_is {fresh} (byte {b} ne may h) = rw (ne_eqb b CR ne, no_end fresh may, later_is h)

-- a byte as the first one
pub first_step : {a : ℕ} (bytes : Bytes) {v : Bytes} → a ≢ LF
    → ((rest : Bytes) → a ∷ bytes ≢ CR ∷ NUL ∷ rest)
    → later_value (After true) bytes ≡ Some v → value_of (a ∷ bytes) ≡ Some (a ∷ v)
first_step [] {v} no_lf apart h = absurd (none-some v h)
first_step {a} (b ∷ bytes) {v} no_lf apart h =
    by_tests (bytes_eq (b ∷ bytes) (LF ∷ [])) refl ((a == CR) && (b == NUL)) refl
  where
    by_tests : (lone : Bool) → bytes_eq (b ∷ bytes) (LF ∷ []) ≡ lone
        → (both : Bool) → ((a == CR) && (b == NUL)) ≡ both
        → value_of (a ∷ b ∷ bytes) ≡ Some (a ∷ v)
    by_tests true lone both e = absurd (none-some v
        (sym (ap (later_value (After true)) ((bytes_decides (b ∷ bytes) (LF ∷ [])).0 lone)) ∙ h))
    by_tests false more true e = let parts = and_parts (a == CR) (b == NUL) e in
        absurd (apart bytes (λ i. eqb-true a CR parts.0 i ∷ (eqb-true b NUL parts.1 i ∷ bytes)))
    by_tests false more false e = rw (ne_eqb a LF no_lf, more, e, h)

-- the value that a parameter has is the computed one
pub value_of-Reads : {parameter v : Bytes} → Reads parameter v → value_of parameter ≡ Some v
value_of-Reads nothing = refl
value_of-Reads ended = refl
value_of-Reads ended_crlf = refl
value_of-Reads (one_byte {b} no_cr no_lf) = rw (ne_eqb b LF no_lf, ne_eqb b CR no_cr)
value_of-Reads (first_cr_nul h) = rw (later_is h)
value_of-Reads (first_byte no_lf apart h) = first_step _ no_lf apart (later_is h)

-- The other way: what is computed is a value.

-- what is found from a byte on; after a CR, with that CR
abbrev Found : Context → Bytes → Bytes → Type 0
Found (After fresh) bytes v = ReadsLater fresh bytes v
Found Returning bytes v = (fresh : Bool) → ReadsLater fresh (CR ∷ bytes) v

-- the value of the rest, and the byte before it
then_back : (a : ℕ) (rest : Option Bytes) (v : Bytes) → byte_then a rest ≡ Some v
    → (w : Bytes) × (rest ≡ Some w) × (a ∷ w ≡ v)
then_back a None v h = absurd (none-some v h)
then_back a (Some w) v h = (w, refl, same_Some (a ∷ w) v h)

module _ (b : ℕ) (bytes v : Bytes) (further : (context : Context) (w : Bytes)
    → later_value context bytes ≡ Some w → Found context bytes w) where
  kept : (fresh : Bool) → b ≢ CR → (b ≡ LF → IsTrue fresh)
      → byte_then b (later_value (After false) bytes) ≡ Some v → ReadsLater fresh (b ∷ bytes) v
  kept fresh no_cr may h =
      let p = then_back b (later_value (After false) bytes) v h in
      subst (ReadsLater fresh (b ∷ bytes)) p.2 (byte no_cr may (further (After false) p.0 p.1))

  after : (fresh : Bool) → (b ≡ CR) ⊎ (b ≢ CR) → (b ≡ LF) ⊎ (b ≢ LF)
      → later_value (After fresh) (b ∷ bytes) ≡ Some v → ReadsLater fresh (b ∷ bytes) v
  after fresh (inl is_cr) lf h = rw is_cr (further Returning v (rw is_cr at h) fresh)
  after true (inr no_cr) (inl is_lf) h =
      kept true no_cr (λ _. refl) (rw (ne_eqb b CR no_cr) at h)
  after false (inr no_cr) (inl is_lf) h =
      rw is_lf (subst (ReadsLater false (LF ∷ bytes)) (same_Some [] v (rw is_lf at h)) ends_lf)
  after fresh (inr no_cr) (inr no_lf) h =
      let may : b ≡ LF → IsTrue fresh = λ e. absurd (no_lf e) in
      kept fresh no_cr may (rw (ne_eqb b CR no_cr, no_end fresh may) at h)

  returning : (b ≡ LF) ⊎ (b ≢ LF) → (b ≡ NUL) ⊎ (b ≢ NUL)
      → later_value Returning (b ∷ bytes) ≡ Some v → (fresh : Bool)
      → ReadsLater fresh (CR ∷ b ∷ bytes) v
  returning (inl is_lf) nul h fresh = rw is_lf
      (subst (ReadsLater fresh (CR ∷ LF ∷ bytes)) (same_Some [] v (rw is_lf at h)) ends_crlf)
  returning (inr no_lf) (inl is_nul) h fresh =
      let p = then_back CR (later_value (After true) bytes) v (rw is_nul at h) in
      rw is_nul (subst (ReadsLater fresh (CR ∷ NUL ∷ bytes)) p.2
      (cr_nul (further (After true) p.0 p.1)))
  returning (inr no_lf) (inr no_nul) h fresh =
      absurd (none-some v (rw (ne_eqb b LF no_lf, ne_eqb b NUL no_nul) at h))

later_back : (context : Context) (bytes v : Bytes) → later_value context bytes ≡ Some v
    → Found context bytes v
later_back context [] v h = absurd (none-some v h)
later_back (After fresh) (b ∷ bytes) v h = after b bytes v
    (λ context w. later_back context bytes w) fresh (cases_eq b CR) (cases_eq b LF) h
later_back Returning (b ∷ bytes) v h = returning b bytes v
    (λ context w. later_back context bytes w) (cases_eq b LF) (cases_eq b NUL) h

module _ (a : ℕ) (v : Bytes) (no_lf : a ≢ LF) where
  first_back : (bytes : Bytes) → first_value a bytes ≡ Some v → Reads (a ∷ bytes) v
  first_back [] h = absurd (none-some v h)
  first_back (b ∷ rest) h = by_test ((a == CR) && (b == NUL)) refl
    where
      by_test : (both : Bool) → ((a == CR) && (b == NUL)) ≡ both → Reads (a ∷ b ∷ rest) v
      by_test true e =
          let parts = and_parts (a == CR) (b == NUL) e in
          let p = then_back CR (later_value (After true) rest) v (rw e at h) in
          rw (eqb-true a CR parts.0, eqb-true b NUL parts.1)
          (subst (Reads (CR ∷ NUL ∷ rest)) p.2 (first_cr_nul (later_back (After true) rest p.0 p.1)))
      by_test false e =
          let p = then_back a (later_value (After true) (b ∷ rest)) v (rw e at h) in
          subst (Reads (a ∷ b ∷ rest)) p.2 (first_byte no_lf
          (λ more same. let is_cr : a ≡ CR = cc in let is_nul : b ≡ NUL = cc in false≢true
          (sym e ∙ and_from (a == CR) (b == NUL) (eq-eqb a CR is_cr) (eq-eqb b NUL is_nul)))
          (later_back (After true) (b ∷ rest) p.0 p.1))

-- the computed value is the parameter's
pub Reads-value_of : (parameter v : Bytes) → value_of parameter ≡ Some v → Reads parameter v
Reads-value_of [] v h = subst (Reads []) (same_Some [] v h) nothing
Reads-value_of (a ∷ bytes) v h = by_lf (cases_eq a LF)
  where
    lone : a ≢ LF → bytes ≡ LF ∷ [] → (a ≡ CR) ⊎ (a ≢ CR) → Reads (a ∷ bytes) v
    lone no_lf is (inl is_cr) = rw (is, is_cr)
        (subst (Reads (CR ∷ LF ∷ [])) (same_Some [] v (rw (is, is_cr) at h)) ended_crlf)
    lone no_lf is (inr no_cr) = rw is (subst (Reads (a ∷ LF ∷ []))
        (same_Some (a ∷ []) v (rw (is, ne_eqb a LF no_lf, ne_eqb a CR no_cr) at h))
        (one_byte no_cr no_lf))

    by_end : a ≢ LF → (test : Bool) → bytes_eq bytes (LF ∷ []) ≡ test → Reads (a ∷ bytes) v
    by_end no_lf true e = lone no_lf ((bytes_decides bytes (LF ∷ [])).0 e) (cases_eq a CR)
    by_end no_lf false e = first_back a v no_lf bytes (rw (ne_eqb a LF no_lf, e) at h)

    by_lf : (a ≡ LF) ⊎ (a ≢ LF) → Reads (a ∷ bytes) v
    by_lf (inl is_lf) =
        rw is_lf (subst (Reads (LF ∷ bytes)) (same_Some [] v (rw is_lf at h)) ended)
    by_lf (inr no_lf) = by_end no_lf (bytes_eq bytes (LF ∷ [])) refl

-- there is none exactly where none is computed
pub value_of-HasNoValue : (parameter : Bytes) → HasNoValue parameter → value_of parameter ≡ None
value_of-HasNoValue parameter bad = by_value (value_of parameter) refl
  where
    by_value : (o : Option Bytes) → value_of parameter ≡ o → o ≡ None
    by_value None e = refl
    by_value (Some v) e = absurd (bad v (Reads-value_of parameter v e))

pub HasNoValue-value_of : (parameter : Bytes) → value_of parameter ≡ None → HasNoValue parameter
HasNoValue-value_of parameter h v r = none-some v (sym h ∙ value_of-Reads r)
