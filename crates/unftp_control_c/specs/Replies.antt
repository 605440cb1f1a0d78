-- The reply that a caller has written, by its code and its text, and the lines of one that it has
-- received.
use Rattle.std.specs.Prelude.{◌≡◌, ℕ, ◌==◌, ◌&&◌, nat_le, if◌then◌else◌, List, [], ◌∷◌, Ok, Err, flat_map}
use Rattle.std.specs.List.{slice_split}
use Rattle.std.specs.Str.Lines.{strip_carriage_return}
use Rattle.unftp_control_defs.specs.Bytes.{Bytes, LF}
use Rattle.unftp_control_defs.specs.FtpReply.{FtpReply, CodeAndMsg, MultiLine, encoded}
use Rattle.unftp_control_defs.specs.ReplyReader.{FrontReply, HasFront, IsMalformed, IsPartial, with_crlf}
use Rattle.unftp_control_c.specs.declared.status.Status.TheVariants.{Malformed, More, UnknownCode, OutOfMemory}
use Rattle.unftp_control_c.specs.Areas.{Made}

-- the lines in the parts that LFs divide: a CR before an LF belongs to the line's end
abbrev pub parts_as_lines : List Bytes → List Bytes
parts_as_lines [] = []
parts_as_lines (part ∷ []) = part ∷ []
parts_as_lines (part ∷ next ∷ parts) = strip_carriage_return part ∷ parts_as_lines (next ∷ parts)

-- the lines of a text, which CR LFs and LFs divide
abbrev pub text_lines : Bytes → List Bytes
text_lines text = parts_as_lines (slice_split (λ b. b == LF) text)

-- one line, or several
abbrev pub reply_of_lines : ℕ → List Bytes → FtpReply
reply_of_lines code (line ∷ []) = CodeAndMsg code line
reply_of_lines code lines = MultiLine code lines

abbrev pub text_reply : ℕ → Bytes → FtpReply
text_reply code text = reply_of_lines code (text_lines text)

-- the reply's bytes, or why there are none
abbrev pub reply_bytes : ℕ → Bytes → Made
reply_bytes code text = if nat_le 100 code && nat_le code 599
    then Ok (encoded (text_reply code text)) else Err UnknownCode

-- The lines of a reply that was received, each with a CR LF after it: a line has none itself.
abbrev pub found_text : List Bytes → Bytes
found_text lines = flat_map with_crlf lines

-- those of the reply at the start of the bytes, or why there are none
abbrev pub IsFoundText : Bytes → Made → Type 0
IsFoundText bytes (Ok text) = (code : ℕ) × (lines : List Bytes) × (used : ℕ)
    × FrontReply bytes code lines used × (text ≡ found_text lines)
IsFoundText bytes (Err More) = IsPartial bytes
IsFoundText bytes (Err Malformed) = IsMalformed bytes
IsFoundText bytes (Err OutOfMemory) = HasFront bytes
IsFoundText bytes (Err status) = ⊥
