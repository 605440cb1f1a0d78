-- What the examples share.
use Rattle.std.proofs.Common.{◌≡◌, ℕ, List, [], ◌∷◌, ◌++◌, Option, append-nil, sym, ap, ◌∙◌}
use Rattle.unftp_control_defs.specs.Bytes.{Bytes}
use Rattle.unftp_control_defs.specs.Events.{FtpEvent}
use Rattle.unftp_control_defs.specs.Lines.{IsLine, incomplete_line, lines_of}
use Rattle.unftp_control_defs.specs.TakingSteps.{TakesEvent}
use Rattle.unftp_control_defs.proofs.LineLemmas.{Lines-unique, line_first}

-- the lines of a line are that line
pub lines_of-IsLine : {line : Bytes} → IsLine line → line ∷ [] ≡ lines_of line
lines_of-IsLine {line} is =
    (Lines-unique line (line ∷ []) []
    (record {
      whole = sym (append-nil (line ++ []) ∙ append-nil line);
      each = (is, tt);
      unended = tt;
    })).0

-- what is taken with an event is the first line
pub first_taken : {limit : Option ℕ} {bytes after : Bytes} {event : FtpEvent}
    (taken : TakesEvent limit bytes event after)
    → (lines_of bytes ≡ taken.line ∷ lines_of after)
    × (incomplete_line bytes ≡ incomplete_line after)
first_taken {after = after} taken =
    let first = line_first taken.line after taken.is_line in
    (ap lines_of taken.whole ∙ first.0, ap incomplete_line taken.whole ∙ first.1)

-- a list with an element in it is not empty
pub not_empty : {A : Type 0} (first : List A) (x : A) (later : List A)
    → [] ≡ first ++ x ∷ later → ⊥
not_empty [] x later e = cc
not_empty (y ∷ first) x later e = cc
