-- In a line the one LF is the last byte. So it is in the parameter bytes, and the value has none.
use Rattle.std.proofs.Common.{◌≡◌, ◌≢◌, ℕ, Bool, [], ◌∷◌, ◌++◌, ◌⊎◌, Some, IsTrue, refl, sym, subst, inl, inr, arith}
use Rattle.std.specs.Bool.{⊤}
use Rattle.unftp_control_defs.specs.Bytes.{Bytes, NUL, LF, CR, Lacks}
use Rattle.unftp_control_defs.specs.Lines.{IsLine}
use Rattle.unftp_control_defs.specs.Verbs.{is_separator, verb_of, parameter_of}
use Rattle.unftp_control_defs.specs.Values.{ReadsLater, ends_crlf, ends_lf, cr_nul, byte, Reads, nothing, ended, ended_crlf, one_byte, first_cr_nul, first_byte}
use Rattle.unftp_control_defs.specs.ComputedValue.{value_of}
use Rattle.unftp_control_defs.proofs.ValueLemmas.{Reads-value_of}
use Rattle.unftp_control_defs.proofs.VerbLemmas.{Cut-verb_of}

-- each LF is the last byte
abbrev pub EndsAtLf : Bytes → Type 0
EndsAtLf [] = ⊤
EndsAtLf (b ∷ bytes) = (b ≡ LF → bytes ≡ []) × EndsAtLf bytes

body_ends : (body : Bytes) → Lacks LF body → EndsAtLf (body ++ LF ∷ [])
body_ends [] h = ((λ e. refl), tt)
body_ends (b ∷ body) h = ((λ e. absurd (h.0 e)), body_ends body h.1)

pub IsLine-ends : (line : Bytes) → IsLine line → EndsAtLf line
IsLine-ends line l = subst EndsAtLf (sym l.whole) (body_ends l.body l.one_end)

rest_ends : (front rest : Bytes) → EndsAtLf (front ++ rest) → EndsAtLf rest
rest_ends [] rest h = h
rest_ends (b ∷ front) rest h = rest_ends front rest h.1

pub parameter_of-ends : (line : Bytes) → EndsAtLf line → EndsAtLf (parameter_of line)
parameter_of-ends line h = by_whole (Cut-verb_of line).whole
  where
    by_whole : ((line ≡ verb_of line) × (parameter_of line ≡ []))
        ⊎ ((b : ℕ) × IsTrue (is_separator b) × (line ≡ verb_of line ++ b ∷ parameter_of line))
        → EndsAtLf (parameter_of line)
    by_whole (inl p) = subst EndsAtLf (sym p.1) tt
    by_whole (inr p) = (rest_ends (verb_of line) (p.0 ∷ parameter_of line) (subst EndsAtLf p.2 h)).1

-- Before an end no byte is an LF.
pub parts : {b : ℕ} {t rest : Bytes} → b ∷ t ≡ CR ∷ NUL ∷ rest → (b ≡ CR) × (t ≡ NUL ∷ rest)
parts q = (cc, cc)

pub not_cr : {b : ℕ} {t rest : Bytes} → b ≢ CR → b ∷ t ≢ CR ∷ NUL ∷ rest
not_cr no_cr q = no_cr (parts q).0

pub later_some : {fresh : Bool} {bytes v : Bytes} → ReadsLater fresh bytes v → bytes ≢ []
later_some ends_crlf e = cc
later_some ends_lf e = cc
later_some (cr_nul r) e = cc
later_some (byte no_cr may r) e = cc

-- so no byte before an end is an LF
pub inner : {b : ℕ} {fresh : Bool} {bytes v : Bytes} → EndsAtLf (b ∷ bytes) → ReadsLater fresh bytes v
    → b ≢ LF
inner h r e = later_some r (h.0 e)

later_lacks : {fresh : Bool} {bytes v : Bytes} → EndsAtLf bytes → ReadsLater fresh bytes v
    → Lacks LF v
later_lacks h ends_crlf = tt
later_lacks h ends_lf = tt
later_lacks h (cr_nul r) = ((λ e. omega arith), later_lacks h.1.1 r)
later_lacks h (byte no_cr may r) = (inner h r, later_lacks h.1 r)

pub value_lacks : {parameter v : Bytes} → EndsAtLf parameter → Reads parameter v → Lacks LF v
value_lacks h nothing = tt
value_lacks h ended = tt
value_lacks h ended_crlf = tt
value_lacks h (one_byte no_cr no_lf) = (no_lf, tt)
value_lacks h (first_cr_nul r) = ((λ e. omega arith), later_lacks h.1.1 r)
value_lacks h (first_byte no_lf apart r) = (no_lf, later_lacks h.1 r)

-- the value of parameter bytes whose one LF is the last
pub value_of-lacks : (parameter v : Bytes) → EndsAtLf parameter → value_of parameter ≡ Some v
    → Lacks LF v
value_of-lacks parameter v h e = value_lacks h (Reads-value_of parameter v e)
