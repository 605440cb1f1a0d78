-- What the places of CR LF say.
use Rattle.std.proofs.Common.{Option, None, Some, IfNone, IfSome, MatchOption, Bor, ◌≡◌, ◌≢◌, ℕ, zero, suc, [], ◌∷◌, ◌++◌, length, take, ap, subst, ◌∙◌, arith}
use Rattle.std.proofs.Math.Seq.{take-length}
use Rattle.unftp_control_defs.specs.Bytes.{Bytes, SP}
use Rattle.unftp_control_defs.specs.ReplyReader.{LacksCrlf}
use Rattle.unftp_control_read.specs.Search.{LacksCrlfUpTo}

pub lacks_crlf : (n : ℕ) (bytes : Bytes) → LacksCrlfUpTo n bytes → LacksCrlf (take n bytes)
lacks_crlf zero bytes h = tt
lacks_crlf (suc n) [] h = tt
lacks_crlf (suc zero) (a ∷ bytes) h = tt
lacks_crlf (suc (suc n)) (a ∷ []) h = tt
lacks_crlf (suc (suc n)) (a ∷ b ∷ bytes) h = (
  h 0 (omega arith),
  lacks_crlf (suc n) (b ∷ bytes) (λ k less. h (suc k) (omega (arith, less))),
)

pub lacks_all : (bytes : Bytes) → LacksCrlfUpTo (length bytes) bytes → LacksCrlf bytes
lacks_all bytes h = subst LacksCrlf (take-length bytes) (lacks_crlf (length bytes) bytes h)

-- the text after the digits and a space, if there is one
pub after_digits : (digits : Bytes) {line : Bytes} (rest : Bytes) (r : Option (Bor Bytes))
    → line ≡ digits ++ rest
    → MatchOption r ((text : Bytes) → rest ≢ SP ∷ text) (λ text. rest ≡ SP ∷ text.now)
    → IfSome r (λ text. line ≡ digits ++ SP ∷ text.now)
after_digits digits rest (Some text) e h = e ∙ ap (λ r. digits ++ r) h
after_digits digits rest None e h = tt

pub if_none : {A : Type 0} (r : Option A) {P Q : Type 0} → (P → Q) → IfNone r P → IfNone r Q
if_none None weaker h = weaker h
if_none (Some x) weaker h = tt
