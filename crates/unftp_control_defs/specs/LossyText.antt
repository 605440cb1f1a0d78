-- A text whose ill-formed UTF-8 is replaced by U+FFFD, part by part (Unicode, section 3.9, "U+FFFD
-- Substitution of Maximal Subparts"). Rust's `String::from_utf8_lossy` gives it.
use Rattle.std.specs.Prelude.{◌≡◌, ◌≢◌, ℕ, max, ◌==◌, if◌then◌else◌, List, [], ◌∷◌, ◌++◌, length, take, drop, fold}
use Rattle.std.specs.Int.{is_in_range}
use Rattle.std.specs.List.{common_prefix_len, list_any}
use Rattle.unftp_control_defs.specs.Bytes.{Bytes}

-- the bytes of a character: in each row the first and the last value of each (Unicode, table 3-7,
-- "Well-Formed UTF-8 Byte Sequences")
abbrev pub rows : List (List (ℕ × ℕ))
rows = ((0x00, 0x7F) ∷ [])
    ∷ ((0xC2, 0xDF) ∷ (0x80, 0xBF) ∷ [])
    ∷ ((0xE0, 0xE0) ∷ (0xA0, 0xBF) ∷ (0x80, 0xBF) ∷ [])
    ∷ ((0xE1, 0xEC) ∷ (0x80, 0xBF) ∷ (0x80, 0xBF) ∷ [])
    ∷ ((0xED, 0xED) ∷ (0x80, 0x9F) ∷ (0x80, 0xBF) ∷ [])
    ∷ ((0xEE, 0xEF) ∷ (0x80, 0xBF) ∷ (0x80, 0xBF) ∷ [])
    ∷ ((0xF0, 0xF0) ∷ (0x90, 0xBF) ∷ (0x80, 0xBF) ∷ (0x80, 0xBF) ∷ [])
    ∷ ((0xF1, 0xF3) ∷ (0x80, 0xBF) ∷ (0x80, 0xBF) ∷ (0x80, 0xBF) ∷ [])
    ∷ ((0xF4, 0xF4) ∷ (0x80, 0x8F) ∷ (0x80, 0xBF) ∷ (0x80, 0xBF) ∷ [])
    ∷ []

-- how many bytes at the start are in the row's ranges, each in its own
abbrev pub fitting_len : List (ℕ × ℕ) → Bytes → ℕ
fitting_len row bytes = common_prefix_len (λ (first, last) b. is_in_range first last b) row bytes

-- what bytes begin with: a character of so many bytes, or so many ill-formed bytes
pub data Part : Type 0 where
  Character : ℕ → Part
  IllFormed : ℕ → Part

-- A character fits a row in full. Any other part is as many bytes as fit a row, but at least one.
abbrev pub first_part : Bytes → Part
first_part bytes =
    let n = fold (λ longest row. max longest (fitting_len row bytes)) 1 rows in
    if list_any (λ row. fitting_len row bytes == length row) rows then Character n else IllFormed n

-- the text of the bytes: a character stays, and U+FFFD replaces any other part
pub data LossyText : Bytes → Bytes → Type 0 where
  ended : LossyText [] []
  character : (bytes text : Bytes) (n : ℕ) → first_part bytes ≡ Character n
      → LossyText (drop n bytes) text → LossyText bytes (take n bytes ++ text)
  ill_formed : (bytes text : Bytes) (n : ℕ) → bytes ≢ [] → first_part bytes ≡ IllFormed n
      → LossyText (drop n bytes) text → LossyText bytes (0xEF ∷ 0xBF ∷ 0xBD ∷ text)
