-- A reply as its code and texts, and the bytes that say it (RFC 959, section 4.2).
use Rattle.std.specs.Prelude.{ℕ, ◌<◌, ◌≤◌, Bool, true, ◌==◌, ◌&&◌, nat_le, if◌then◌else◌, List, [], ◌∷◌, ◌++◌, length, decimal, Option, Some, None}
use Rattle.std.specs.List.{AllByRecursion}
use Rattle.std.specs.Char.{is_ascii_digit}
use Rattle.unftp_control_defs.specs.Bytes.{Bytes, LF, SP, DASH, crlf, Lacks}

-- no reply; a code and one line of text; a code and lines
pub data FtpReply : Type 0 where
  Nothing : FtpReply
  CodeAndMsg : ℕ → Bytes → FtpReply
  MultiLine : ℕ → List Bytes → FtpReply

-- A line that begins with a digit is padded, so that none is taken for the last one. RFC 959 asks it
-- only of lines that begin with three digits.
abbrev pub padded : Bytes → Bytes
padded [] = []
padded (b ∷ line) = if is_ascii_digit b then SP ∷ b ∷ line else b ∷ line

-- after the code: one space and a text, which may be empty
abbrev pub spaced_line : Bytes → Bytes
spaced_line text = (SP ∷ text) ++ crlf

-- the lines after the code and a dash, each but the last padded; the last follows the code and a
-- space
abbrev pub lines_after_code : ℕ → Bytes → List Bytes → Bytes
lines_after_code code line [] = decimal code ++ spaced_line line
lines_after_code code line (next ∷ lines) = padded line ++ crlf ++ lines_after_code code next lines

-- The code is written without padding. In `CodeAndMsg` an empty text has no space before it (RFC 959
-- has one); any other text has.
abbrev pub encoded : FtpReply → Bytes
encoded Nothing = []
encoded (CodeAndMsg code text) =
    decimal code ++ (if length text == 0 then crlf else spaced_line text)
encoded (MultiLine code []) = decimal code ++ spaced_line []
encoded (MultiLine code (line ∷ [])) = decimal code ++ spaced_line line
encoded (MultiLine code (line ∷ next ∷ lines)) =
    decimal code ++ DASH ∷ lines_after_code code line (next ∷ lines)

-- 2yz says that the command is done, and 3yz that it may go on (RFC 959, section 4.2.1); where
-- nothing is sent, nothing failed.
abbrev pub is_positive_code : ℕ → Bool
is_positive_code code = nat_le 200 code && nat_le code 399

abbrev pub is_positive : FtpReply → Bool
is_positive Nothing = true
is_positive (CodeAndMsg code text) = is_positive_code code
is_positive (MultiLine code lines) = is_positive_code code

-- The lines as a client sees them: at least one, each but the last padded.
abbrev pub lines_as_read : List Bytes → List Bytes
lines_as_read [] = [] ∷ []
lines_as_read (line ∷ []) = line ∷ []
lines_as_read (line ∷ next ∷ lines) = padded line ∷ lines_as_read (next ∷ lines)

abbrev pub reply_as_read : FtpReply → Option (ℕ × List Bytes)
reply_as_read Nothing = None
reply_as_read (CodeAndMsg code text) = Some (code, text ∷ [])
reply_as_read (MultiLine code lines) = Some (code, lines_as_read lines)

-- what a client can read back: a code of three digits, and texts without LF
abbrev pub HasThreeDigits : ℕ → Type 0
HasThreeDigits code = (100 ≤ code) × (code < 1000)

abbrev pub IsPlain : FtpReply → Type 0
IsPlain Nothing = Unit {0}
IsPlain (CodeAndMsg code text) = HasThreeDigits code × Lacks LF text
IsPlain (MultiLine code lines) = HasThreeDigits code × AllByRecursion (Lacks LF) lines

-- a reply that is sent, and that a client reads back as it is
abbrev pub IsReadable : FtpReply → Type 0
IsReadable Nothing = ⊥
IsReadable reply = IsPlain reply
