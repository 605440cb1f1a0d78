-- The value of a parameter: a CR is sent as CR NUL, and CR LF ends the line (RFC 854, "The NVT
-- printer and keyboard"). Two points are wider than the standard: a bare LF may end a value, and a
-- bare CR is read where it comes first.
use Rattle.std.specs.Prelude.{◌≡◌, ◌≢◌, ℕ, Bool, true, false, IsTrue, ◌==◌, if◌then◌else◌, [], ◌∷◌, flat_map}
use Rattle.unftp_control_defs.specs.Bytes.{Bytes, NUL, LF, CR}

-- What follows the first byte of a value. Bytes are `fresh` directly after that byte or a CR NUL:
-- only there is an LF a byte of the value. What comes after the end is ignored.
pub data ReadsLater : Bool → Bytes → Bytes → Type 0 where
  ends_crlf : {fresh : Bool} {ignored : Bytes} → ReadsLater fresh (CR ∷ LF ∷ ignored) []
  ends_lf : {ignored : Bytes} → ReadsLater false (LF ∷ ignored) []
  cr_nul : {fresh : Bool} {bytes v : Bytes} → ReadsLater true bytes v
      → ReadsLater fresh (CR ∷ NUL ∷ bytes) (CR ∷ v)
  byte : {fresh : Bool} {b : ℕ} {bytes v : Bytes} → b ≢ CR → (b ≡ LF → IsTrue fresh)
      → ReadsLater false bytes v → ReadsLater fresh (b ∷ bytes) (b ∷ v)

-- The parameter bytes have this value.
pub data Reads : Bytes → Bytes → Type 0 where
  nothing : Reads [] []
  ended : {ignored : Bytes} → Reads (LF ∷ ignored) []
  ended_crlf : Reads (CR ∷ LF ∷ []) []
  one_byte : {b : ℕ} → b ≢ CR → b ≢ LF → Reads (b ∷ LF ∷ []) (b ∷ [])
  first_cr_nul : {bytes v : Bytes} → ReadsLater true bytes v → Reads (CR ∷ NUL ∷ bytes) (CR ∷ v)
  first_byte : {b : ℕ} {bytes v : Bytes} → b ≢ LF
      → ((rest : Bytes) → b ∷ bytes ≢ CR ∷ NUL ∷ rest)
      → ReadsLater true bytes v → Reads (b ∷ bytes) (b ∷ v)

-- They have none.
abbrev pub HasNoValue : Bytes → Type 0
HasNoValue parameter = (v : Bytes) → Reads parameter v → ⊥

-- A text as a value is sent, each CR as CR NUL.
abbrev pub escaped : Bytes → Bytes
escaped text = flat_map (λ b. if b == CR then CR ∷ NUL ∷ [] else b ∷ []) text
