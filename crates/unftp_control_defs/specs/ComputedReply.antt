-- The reply at the start of some bytes, computed: it is the one that `FrontReply` relates to them.
use Rattle.std.specs.Prelude.{ℕ, ◌+◌, ◌*◌, ◌-◌, ◌==◌, ◌&&◌, if◌then◌else◌, List, [], ◌∷◌, ◌++◌, take, drop, length, bytes_eq, Option, Some, None, option_map}
use Rattle.std.specs.Char.{is_ascii_digit}
use Rattle.unftp_control_defs.specs.Bytes.{Bytes, CR, LF, SP, DASH}

-- the whole lines of some bytes, without their CR LF, each with the bytes after it
abbrev pub Cuts : Type 0
Cuts = List (Bytes × Bytes)

-- the first line with one more byte at its start, and with one fewer
abbrev pub with_byte : ℕ → Cuts → Cuts
with_byte b [] = []
with_byte b (cut ∷ cuts) = (b ∷ cut.0, cut.1) ∷ cuts

abbrev pub without_byte : Cuts → Cuts
without_byte [] = []
without_byte (cut ∷ cuts) = (drop 1 cut.0, cut.1) ∷ cuts

-- A CR LF ends a line. Any other byte belongs to the first line after it.
abbrev pub cut_at : ℕ → Bytes → Cuts → Cuts
cut_at a [] later = []
cut_at a (b ∷ bytes) later =
    if (a == CR) && (b == LF) then ([], bytes) ∷ without_byte later else with_byte a later

abbrev pub cuts_of : Bytes → Cuts
cuts_of [] = []
cuts_of (a ∷ bytes) = cut_at a bytes (cuts_of bytes)

-- the code that three digits spell
abbrev pub code_of : Bytes → Option ℕ
code_of (a ∷ b ∷ c ∷ []) = if is_ascii_digit a && (is_ascii_digit b && is_ascii_digit c)
    then Some ((a - 48) * 100 + (b - 48) * 10 + (c - 48)) else None
code_of _ = None

-- What a line opens: nothing; a reply of this one text; or one of several, of which this is the
-- first.
pub data Opening : Type 0 where
  Nothing : Opening
  One : ℕ → Bytes → Opening
  Several : ℕ → Bytes → Opening

-- by the code, if it begins with one, and what follows
abbrev pub opening_by : Option ℕ → Bytes → Opening
opening_by None after = Nothing
opening_by (Some code) [] = One code []
opening_by (Some code) (b ∷ text) =
    if b == SP then One code text else (if b == DASH then Several code text else Nothing)

abbrev pub opening : Bytes → Opening
opening line = opening_by (code_of (take 3 line)) (drop 3 line)

-- the text of a last line, after the digits and a space
abbrev pub last_text : Bytes → Bytes → Option Bytes
last_text digits line = let start = digits ++ SP ∷ [] in
    if bytes_eq (take (length start) line) start then Some (drop (length start) line) else None

-- what is read of the later lines of a reply of several, and the bytes after the last one
abbrev pub later_by : Option Bytes → Bytes × Bytes → Option (List Bytes × Bytes)
    → Option (List Bytes × Bytes)
later_by (Some text) cut more = Some (text ∷ [], cut.1)
later_by None cut more = option_map (λ read. (cut.0 ∷ read.0, read.1)) more

abbrev pub later_lines : Bytes → Cuts → Option (List Bytes × Bytes)
later_lines digits [] = None
later_lines digits (cut ∷ cuts) =
    later_by (last_text digits cut.0) cut (later_lines digits cuts)

-- What some bytes begin with: a reply of this code and these lines, with the bytes after it; a part
-- of one; or a line that opens none.
pub data Front : Type 0 where
  Whole : ℕ → List Bytes → Bytes → Front
  Partial : Front
  Malformed : Front

-- after these lines
abbrev pub front_after : ℕ → List Bytes → Option (List Bytes × Bytes) → Front
front_after code lines None = Partial
front_after code lines (Some read) = Whole code (lines ++ read.0) read.1

-- by what the first line opens
abbrev pub front_by : Opening → Bytes → Bytes → Cuts → Front
front_by Nothing digits rest cuts = Malformed
front_by (One code text) digits rest cuts = Whole code (text ∷ []) rest
front_by (Several code text) digits rest cuts =
    front_after code (text ∷ []) (later_lines digits cuts)

abbrev pub front_at : Cuts → Front
front_at [] = Partial
front_at (cut ∷ cuts) = front_by (opening cut.0) (take 3 cut.0) cut.1 cuts

abbrev pub front_of : Bytes → Front
front_of bytes = front_at (cuts_of bytes)
