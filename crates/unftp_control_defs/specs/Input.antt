-- What was read of a reader, whichever it is.
use Rattle.std.specs.Prelude.{◌≡◌, ℕ, ◌+◌, ◌<◌, ◌≤◌, List, [], ◌∷◌, ◌++◌, length, map, take, Option, Result, MatchResult}
use Rattle.std.specs.List.{AllByRecursion, concat}
use Rattle.std.specs.Io.KnownBytes.{Consumes, IsAtEnd}
use Rattle.unftp_control_defs.specs.Bytes.{Bytes}
use Rattle.unftp_control_defs.specs.declared.input.Input.{Input}

-- What contracts see of an input: all bytes that its reads gave; how many each read gave; and how
-- many reads failed. And the bytes that are not read yet, where the reader's own contracts know
-- them: those of a slice do, and those of a socket don't.
pub record InputState : Type 0 where
  pub given : Bytes
  pub reads : List ℕ
  pub failures : ℕ
  pub remaining : Option Bytes

-- of an input over a reader with these bytes left
abbrev pub input_state_of : {R : Type 0} → (R → Option Bytes) → Input R → InputState
input_state_of remaining input = record {
  given = input.given;
  reads = input.reads;
  failures = input.failures;
  remaining = remaining input.reader;
}

-- The reads gave exactly these bytes; where it is known what was to come, they are its beginning.
pub record HasRead (before after : InputState) (bytes : Bytes) : Type 0 where
  pub given : after.given ≡ before.given ++ bytes
  pub known : Consumes before.remaining after.remaining bytes

-- One read, at Ok of `n` bytes, which it left at the front of this buffer: of none only at the end,
-- or where the buffer has no room. At an error it gave nothing.
abbrev pub OneRead : {E : Type 0} → Result ℕ E → Bytes → InputState → InputState → Type 0
OneRead result buffer before after = MatchResult result
    (λ n. HasRead before after (take n buffer)
    × (n ≡ 0 → 0 < length buffer → IsAtEnd after.remaining)
    × (after.reads ≡ before.reads ++ n ∷ []) × (after.failures ≡ before.failures))
    (λ _. HasRead before after []
    × (after.reads ≡ before.reads) × (after.failures ≡ before.failures + 1))

-- of at least one byte and at most 4,096
abbrev pub HasPieceSize : Bytes → Type 0
HasPieceSize piece = (0 < length piece) × (length piece ≤ 4096)

-- One read gave this piece;
pub record ReadsPiece (before after : InputState) (piece : Bytes) : Type 0 where
  pub given : HasRead before after piece
  pub size : HasPieceSize piece
  pub reads : after.reads ≡ before.reads ++ length piece ∷ []
  pub failures : after.failures ≡ before.failures

-- or it came to the reader's end;
pub record ReadsEnd (before after : InputState) : Type 0 where
  pub given : HasRead before after []
  pub at_end : IsAtEnd after.remaining
  pub reads : after.reads ≡ before.reads ++ 0 ∷ []
  pub failures : after.failures ≡ before.failures

-- or it failed.
pub record ReadFails (before after : InputState) : Type 0 where
  pub given : HasRead before after []
  pub reads : after.reads ≡ before.reads
  pub failures : after.failures ≡ before.failures + 1

-- Each of these pieces was read, and then as many bytes as `more` says: of none, where the last
-- read came to the end.
pub record WereRead (before after : InputState) (pieces : List Bytes) (more : List ℕ)
    : Type 0 where
  -- The reads gave exactly the bytes of the pieces.
  pub given : HasRead before after (concat pieces)
  -- There was one read for each piece, then those of `more`, and no other at `Ok`.
  pub reads : after.reads ≡ before.reads ++ (map length pieces ++ more)
  -- Each piece has at least one byte and at most 4,096.
  pub sizes : AllByRecursion HasPieceSize pieces

-- The last read gave nothing, at the reader's end.
pub record HasEnded (input : InputState) : Type 0 where
  pub none_left : IsAtEnd input.remaining
  pub reads : List ℕ
  pub none_given : input.reads ≡ reads ++ 0 ∷ []
