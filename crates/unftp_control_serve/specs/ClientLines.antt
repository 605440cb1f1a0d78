-- The first line of what a client sent.
use Rattle.std.specs.Prelude.{ℕ, if◌then◌else◌, List, [], ◌∷◌, Option, Some, None, length, drop}
use Rattle.unftp_control_defs.specs.Bytes.{Bytes}
use Rattle.unftp_control_defs.specs.Events.{exceeds}
use Rattle.unftp_control_defs.specs.Lines.{lines_of}
use Rattle.unftp_control_serve.specs.declared.decoder.ClientLine.{ClientLine}
use Rattle.unftp_control_serve.specs.declared.decoder.ClientLine.TheVariants.{Complete, TooLong}

abbrev pub head_or_none : List Bytes → Bytes
head_or_none [] = []
head_or_none (line ∷ lines) = line

-- the first line of these bytes, and the bytes after it
abbrev pub front_line : Bytes → Bytes
front_line bytes = head_or_none (lines_of bytes)

abbrev pub after_front_line : Bytes → Bytes
after_front_line bytes = drop (length (front_line bytes)) bytes

-- what is kept of a line that was taken: nothing where it is too long
abbrev pub unless_too_long : Option ℕ → Bytes → Bytes
unless_too_long limit line = if exceeds limit (length line) then [] else line

-- what the first of these lines is, where there is one
abbrev pub first_client_line : Option ℕ → List Bytes → Option ClientLine
first_client_line limit [] = None
first_client_line limit (line ∷ lines) =
    Some (if exceeds limit (length line) then TooLong else Complete)
