-- The parts of a line, and what they are of a command's.
use Rattle.std.specs.Prelude.{◌≡◌, Bool, not, ◌&&◌, [], ◌∷◌, ◌++◌, ℕ, Option, Some, None, option_map}
use Rattle.std.specs.Char.{is_ascii_lowercase}
use Rattle.unftp_control_defs.specs.Bytes.{Bytes, SP}
use Rattle.unftp_control_defs.specs.Values.{escaped}
use Rattle.unftp_control_defs.specs.Verbs.{is_separator}
use Rattle.unftp_control_write.specs.declared.line.Line.{Line}

-- what follows a space, if there is anything
abbrev pub spaced_part : Option Bytes → Bytes
spaced_part None = []
spaced_part (Some bytes) = SP ∷ bytes

-- a verb, a word and a value, of which there may be none, without the CR LF
abbrev pub line_body : Bytes → Option Bytes → Option Bytes → Bytes
line_body verb word value = verb ++ spaced_part word ++ spaced_part (option_map escaped value)

abbrev pub body_of : Line → Bytes
body_of line = line_body line.verb.now (option_map (λ word. word.now) line.word)
    (option_map (λ value. value.now) line.value)

-- Where the command has a line there are parts, which are its body; else there are none.
abbrev pub ReturnsLine : Type 0 → Bytes → Option Line → Type 0
ReturnsLine has_line body None = ¬ has_line
ReturnsLine has_line body (Some line) = has_line × (body_of line ≡ body)

-- a byte of a name in upper case
abbrev pub is_name_byte : ℕ → Bool
is_name_byte b = not (is_separator b) && not (is_ascii_lowercase b)
