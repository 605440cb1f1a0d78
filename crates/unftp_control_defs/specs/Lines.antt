-- The lines of an input (RFC 959, section 5.3, in a wider form: a line ends at its LF, with or
-- without a CR before it).
use Rattle.std.specs.Prelude.{◌≡◌, ℕ, List, [], ◌∷◌, ◌++◌, ◌==◌, if◌then◌else◌}
use Rattle.std.specs.List.{AllByRecursion, concat}
use Rattle.unftp_control_defs.specs.Bytes.{Bytes, LF, Lacks}

-- bytes with one LF, the last of them
pub record IsLine (line : Bytes) : Type 0 where
  pub body : Bytes
  pub whole : line ≡ body ++ LF ∷ []
  pub one_end : Lacks LF body

-- the input is these lines, and then an incomplete one that no LF ends
pub record Lines (input : Bytes) (lines : List Bytes) (incomplete : Bytes) : Type 0 where
  pub whole : input ≡ concat lines ++ incomplete
  pub each : AllByRecursion IsLine lines
  pub unended : Lacks LF incomplete

-- The lines of an input and its incomplete line, computed: a byte other than LF belongs to the first
-- line after it, or to the incomplete line where there is none.
abbrev pub onto_line : ℕ → List Bytes → List Bytes
onto_line b [] = []
onto_line b (line ∷ lines) = (b ∷ line) ∷ lines

abbrev pub onto_incomplete_line : ℕ → List Bytes → Bytes → Bytes
onto_incomplete_line b [] incomplete = b ∷ incomplete
onto_incomplete_line b (line ∷ lines) incomplete = incomplete

abbrev pub lines_of : Bytes → List Bytes
lines_of [] = []
lines_of (b ∷ bytes) = if b == LF then (LF ∷ []) ∷ lines_of bytes else onto_line b (lines_of bytes)

abbrev pub incomplete_line : Bytes → Bytes
incomplete_line [] = []
incomplete_line (b ∷ bytes) = if b == LF then incomplete_line bytes
    else onto_incomplete_line b (lines_of bytes) (incomplete_line bytes)
