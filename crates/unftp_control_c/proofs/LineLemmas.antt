-- The lines of a text, one after the other.
use Rattle.std.proofs.Common.{◌≡◌, ◌<◌, ◌==◌, false, List, [], ◌∷◌, ◌++◌, length, refl, arith, ne_eqb}
use Rattle.std.specs.List.{All, AllByRecursion, slice_split}
use Rattle.std.specs.Str.Lines.{strip_carriage_return}
use Rattle.std.proofs.lemmas.List.Elements.{All-from_recursion}
use Rattle.std.proofs.lemmas.List.Splits.{slice_split_none, slice_split_at, length-slice_split}
use Rattle.unftp_control_defs.specs.Bytes.{Bytes, LF, Lacks}
use Rattle.unftp_control_c.specs.Replies.{parts_as_lines, text_lines}

none_is : (line : Bytes) → Lacks LF line → All (λ b. (b == LF) ≡ false) line
none_is line none = All-from_recursion (λ b. (b == LF) ≡ false) line (each line none)
  where
    each : (line : Bytes) → Lacks LF line → AllByRecursion (λ b. (b == LF) ≡ false) line
    each [] none = tt
    each (b ∷ line) none = (ne_eqb b LF none.0, each line none.1)

lines_step : (part : Bytes) (parts : List Bytes) → 0 < length parts
    → parts_as_lines (part ∷ parts) ≡ strip_carriage_return part ∷ parts_as_lines parts
lines_step part [] some = absurd (omega (arith, some))
lines_step part (next ∷ parts) some = refl

pub next_line : (text line after : Bytes) → text ≡ line ++ LF ∷ after → Lacks LF line
    → text_lines text ≡ strip_carriage_return line ∷ text_lines after
next_line text line after whole none =
    let parts : slice_split (λ b. b == LF) text ≡ line ∷ slice_split (λ b. b == LF) after =
    rw whole (slice_split_at (λ b. b == LF) line LF after (none_is line none) refl) in
    rw parts (lines_step line (slice_split (λ b. b == LF) after)
    (omega (arith, length-slice_split (λ b. b == LF) after)))

pub last_line : (text : Bytes) → Lacks LF text → text_lines text ≡ text ∷ []
last_line text none = rw (slice_split_none (λ b. b == LF) text (none_is text none)) refl
