-- Lines that end with CR LF: `cuts_of` finds them.
use Rattle.std.proofs.Common.{◌≡◌, ◌≢◌, ℕ, Bool, true, false, ◌==◌, ◌&&◌, [], ◌∷◌, ◌++◌, ◌⊎◌, refl, sym, ap, ◌∙◌, inl, inr, append_assoc, eq-eqb, eqb-true, ne_eqb, arith}
use Rattle.std.specs.Prelude.{⊤}
use Rattle.std.proofs.lemmas.Bool.{and_parts, cases_eq, true≢false}
use Rattle.unftp_control_defs.specs.Bytes.{Bytes, CR, LF, crlf, Lacks}
use Rattle.unftp_control_defs.specs.ReplyReader.{LacksCrlf, with_crlf}
use Rattle.unftp_control_defs.specs.ComputedReply.{Cuts, with_byte, without_byte, cuts_of}

-- a text without LF has no CR LF
pub LacksCrlf-Lacks : (text : Bytes) → Lacks LF text → LacksCrlf text
LacksCrlf-Lacks [] h = tt
LacksCrlf-Lacks (a ∷ []) h = tt
LacksCrlf-Lacks (a ∷ b ∷ text) h = ((λ _. h.1.0), LacksCrlf-Lacks (b ∷ text) h.1)

no_crlf : (a b : ℕ) → (a ≡ CR → b ≢ LF) → ((a == CR) && (b == LF)) ≡ false
no_crlf a b apart = by_first (cases_eq a CR)
  where
    by_first : (a ≡ CR) ⊎ (a ≢ CR) → ((a == CR) && (b == LF)) ≡ false
    by_first (inl is) = rw (eq-eqb a CR is, ne_eqb b LF (apart is))
    by_first (inr ne) = rw (ne_eqb a CR ne)

after_lf : (bytes : Bytes) → without_byte (cuts_of (LF ∷ bytes)) ≡ cuts_of bytes
after_lf [] = refl
after_lf (b ∷ bytes) = without (cuts_of (b ∷ bytes))
  where
    without : (cuts : Cuts) → without_byte (with_byte LF cuts) ≡ cuts
    without [] = refl
    without (cut ∷ cuts) = refl

-- the first line is cut at its end
pub cuts_of-line : (line rest : Bytes) → LacksCrlf line
    → cuts_of (line ++ CR ∷ LF ∷ rest) ≡ (line, rest) ∷ cuts_of rest
cuts_of-line [] rest h = ap (λ (cuts : Cuts). ([], rest) ∷ cuts) (after_lf rest)
cuts_of-line (a ∷ []) rest h = rw (no_crlf a CR (λ _ e. omega (arith, e))) (ap (with_byte a) (cuts_of-line [] rest tt))
cuts_of-line (a ∷ b ∷ line) rest h = rw (no_crlf a b h.0, cuts_of-line (b ∷ line) rest h.1)

pub cuts_of-with_crlf : (line rest : Bytes) → LacksCrlf line
    → cuts_of (with_crlf line ++ rest) ≡ (line, rest) ∷ cuts_of rest
cuts_of-with_crlf line rest h =
    ap cuts_of (append_assoc line crlf rest) ∙ cuts_of-line line rest h

pub cuts_of-none : (bytes : Bytes) → LacksCrlf bytes → cuts_of bytes ≡ []
cuts_of-none [] h = refl
cuts_of-none (a ∷ []) h = refl
cuts_of-none (a ∷ b ∷ bytes) h = rw (no_crlf a b h.0, cuts_of-none (b ∷ bytes) h.1)

-- each cut is the first line of the bytes, and those after it
abbrev pub AreCuts : Bytes → Cuts → Type 0
AreCuts bytes [] = ⊤
AreCuts bytes (cut ∷ cuts) =
    (bytes ≡ with_crlf cut.0 ++ cut.1) × LacksCrlf cut.0 × AreCuts cut.1 cuts

longer_cuts : {a b : ℕ} (bytes : Bytes) (cuts : Cuts) → (a ≡ CR → b ≢ LF)
    → AreCuts (b ∷ bytes) cuts → AreCuts (a ∷ b ∷ bytes) (with_byte a cuts)
longer_cuts bytes [] apart h = tt
longer_cuts {a} {b} bytes ((line, rest) ∷ cuts) apart h =
    (ap (λ t. a ∷ t) h.0, lacks line h.0 h.1, h.2)
  where
    lacks : (line : Bytes) → b ∷ bytes ≡ with_crlf line ++ rest → LacksCrlf line
        → LacksCrlf (a ∷ line)
    lacks [] e l = tt
    lacks (c ∷ line) e l = let same : b ≡ c = cc in ((λ is_cr is_lf. apart is_cr (same ∙ is_lf)), l)

pub AreCuts-cuts_of : (bytes : Bytes) → AreCuts bytes (cuts_of bytes)
AreCuts-cuts_of [] = tt
AreCuts-cuts_of (a ∷ []) = tt
AreCuts-cuts_of (a ∷ b ∷ bytes) =
    by_end ((a == CR) && (b == LF)) refl (AreCuts-cuts_of (b ∷ bytes)) (AreCuts-cuts_of bytes)
  where
    by_end : (end : Bool) → ((a == CR) && (b == LF)) ≡ end → AreCuts (b ∷ bytes) (cuts_of (b ∷ bytes))
        → AreCuts bytes (cuts_of bytes) → AreCuts (a ∷ b ∷ bytes) (cuts_of (a ∷ b ∷ bytes))
    by_end true e longer shorter =
        let parts = and_parts (a == CR) (b == LF) e in
        rw (eqb-true a CR parts.0, eqb-true b LF parts.1, after_lf bytes) (refl, tt, shorter)
    by_end false e longer shorter = rw e (longer_cuts bytes (cuts_of (b ∷ bytes)) apart longer)
      where
        apart : a ≡ CR → b ≢ LF
        apart is_cr is_lf = let end : true ≡ false =
            sym (λ i. eq-eqb a CR is_cr i && eq-eqb b LF is_lf i) ∙ e in true≢false end
