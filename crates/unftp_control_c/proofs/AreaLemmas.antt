-- What is in an area after a text was written to it, and what is reported.
use Rattle.std.proofs.Common.{◌≡◌, ◌≢◌, ℕ, ◌-◌, ◌^◌, ◌≤◌, ◌==◌, if◌then◌else◌, List, [], ◌∷◌, ◌++◌, length, take, drop, get_or, Result, Ok, Err, Vec, Global, refl, sym, ap, subst, ◌∙◌, arith, append_assoc}
use Rattle.std.specs.Prelude.{nat_le, IfOk}
use Rattle.std.proofs.lemmas.Bool.{cond_both}
use Rattle.std.proofs.Math.Nat.{min-le_left}
use Rattle.std.proofs.Math.Seq.{take-append_seam, drop-append_seam}
use Rattle.unftp_control_defs.specs.Bytes.{Bytes}
use Rattle.unftp_control_c.specs.declared.status.Status.{Status}
use Rattle.unftp_control_c.specs.declared.status.Status.TheVariants.{Done, More, InvalidCommand, InvalidUtf8, InvalidEol, LineTooLong, OutOfMemory, NoRoom, NoLine, Malformed, UnknownCode, InvalidArgument, NoAddress, UnknownProtocol, ReplyTooLong}
use Rattle.unftp_control_c.specs.Numbers.{status_number}
use Rattle.unftp_control_c.specs.Areas.{Filled, Made, filled, made, written}

-- each status has a number of its own
abbrev statuses : List Status
statuses = More ∷ InvalidCommand ∷ InvalidUtf8 ∷ InvalidEol ∷ LineTooLong ∷ OutOfMemory ∷ NoRoom
    ∷ NoLine ∷ Malformed ∷ UnknownCode ∷ InvalidArgument ∷ NoAddress ∷ UnknownProtocol
    ∷ ReplyTooLong ∷ []

abbrev numbered : ℕ → Status
numbered n = if n == 0 then Done else get_or statuses (n - 101) Done

numbered_back : (status : Status) → numbered (status_number status) ≡ status
numbered_back Done = refl
numbered_back _ = refl

same_status : (a b : Status) → status_number a ≡ status_number b → a ≡ b
same_status a b e = sym (numbered_back a) ∙ ap numbered e ∙ numbered_back b

-- where it is done, the text is at the start of the area
pub filled_done : (text area : Bytes) → (filled text area).result ≡ status_number Done
    → take (filled text area).text_length (filled text area).area ≡ text
filled_done text area = cond_both {A = Filled} (nat_le (length text) (length area)) _ _
    (λ left. left.result ≡ status_number Done → take left.text_length left.area ≡ text)
    (λ _ done. take-append_seam text (drop (length text) area))
    (λ _ done. absurd (omega (arith, done)))

-- its length is reported, whether there is room or not, as far as it can be counted
pub filled_length : (text area : Bytes) → (filled text area).text_length ≤ length text
filled_length text area = grind (arith, min-le_left (length text) (2 ^ 64 - 1))

-- any other status that is reported is why there is no text
pub why_none : (bytes : Made) (area : Bytes) (status : Status) → status ≢ Done → status ≢ NoRoom
    → (written bytes area).result ≡ status_number status → bytes ≡ Err status
why_none (Err why) area status not_done has_room e =
    ap (λ status. Err status) (same_status why status e)
why_none (Ok text) area status not_done has_room e =
    absurd (cond_both {A = Filled} (nat_le (length text) (length area)) _ _
    (λ left. left.result ≡ status_number status → ⊥)
    (λ _ e. not_done (sym (same_status Done status e)))
    (λ _ e. has_room (sym (same_status NoRoom status e))) e)

-- what is so of the text is so of what was written
pub written_text : (P : Bytes → Type 0) (area : Bytes) (bytes : Made) → (bytes ≡ Err Done → ⊥)
    → ((text : Bytes) → bytes ≡ Ok text → P text)
    → (written bytes area).result ≡ status_number Done
    → P (take (written bytes area).text_length (written bytes area).area)
written_text P area (Ok text) not_done so done =
    subst P (sym (filled_done text area done)) (so text refl)
written_text P area (Err status) not_done so done =
    absurd (not_done (ap (λ status. Err status) (same_status status Done done)))

pub same_text : {text other : Bytes} → ◌≡◌ {A = Made} (Ok text) (Ok other) → text ≡ other
same_text e = cc

pub made_text : (P : Bytes → Type 0) (result : Result (Vec ℕ Global) Status)
    → IfOk result (λ buf. P buf.items) → (text : Bytes) → made result ≡ Ok text → P text
made_text P (Ok buf) so text e = subst P (same_text e) so
made_text P (Err status) so text e = absurd (cc)

-- two texts at the start of an area are found by their lengths
pub parts_apart : (text next rest : Bytes) → (take (length text) ((text ++ next) ++ rest) ≡ text)
    × (take (length next) (drop (length text) ((text ++ next) ++ rest)) ≡ next)
parts_apart text next rest = rw (append_assoc text next rest) (
  take-append_seam text (next ++ rest),
  rw (drop-append_seam text (next ++ rest)) (take-append_seam next rest),
)
