-- The parts of a reply of several lines.
use Rattle.std.specs.Prelude.{ℕ, List, [], ◌∷◌, ◌++◌, flat_map, decimal}
use Rattle.unftp_control_defs.specs.Bytes.{Bytes, DASH, crlf}
use Rattle.unftp_control_defs.specs.FtpReply.{padded}

-- a line before the last
abbrev pub padded_line : Bytes → Bytes
padded_line line = padded line ++ crlf

-- all of these after the code and a dash; nothing where the last line is the only one
abbrev pub lines_before_last : ℕ → List Bytes → Bytes
lines_before_last code [] = []
lines_before_last code (line ∷ lines) = decimal code ++ DASH ∷ flat_map padded_line (line ∷ lines)
