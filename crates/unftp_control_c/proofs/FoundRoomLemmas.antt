-- How many bytes the lines of a reply have.
use Rattle.std.proofs.Common.{◌≡◌, ℕ, ◌+◌, ◌≤◌, List, [], ◌∷◌, ◌++◌, length, Ok, Err, arith, ap, length-append}
use Rattle.unftp_control_defs.specs.Bytes.{Bytes, SP, DASH, crlf}
use Rattle.unftp_control_defs.specs.ReplyReader.{AreLaterLines, IsReply, code_only, goes_on, last, several, single, with_crlf}
use Rattle.unftp_control_c.specs.Areas.{Made, written}
use Rattle.unftp_control_c.specs.Replies.{IsFoundText, found_text}
use Rattle.unftp_control_c.proofs.AreaLemmas.{filled_length}

line_length : (line : Bytes) → length (with_crlf line) ≡ length line + 2
line_length line = length-append line crlf

-- of one line more
more_length : (line : Bytes) (lines : List Bytes)
    → length (found_text (line ∷ lines)) ≡ length line + 2 + length (found_text lines)
more_length line lines =
    omega (arith, length-append (with_crlf line) (found_text lines), line_length line)

-- a text after the digits and a sign
after_digits : (digits text : Bytes) (sign : ℕ)
    → length (with_crlf (digits ++ sign ∷ text)) ≡ length digits + length text + 3
after_digits digits text sign =
    omega (arith, line_length (digits ++ sign ∷ text), length-append digits (sign ∷ text))

later_length : {digits bytes : Bytes} {lines : List Bytes} → AreLaterLines digits bytes lines
    → length (found_text lines) ≤ length bytes
later_length {digits = digits} (last {text = text} lacks) =
    omega (arith, more_length text [], after_digits digits text SP)
later_length (goes_on {line = line} {bytes = bytes} {lines = lines} lacks goes later) =
    omega (
      arith,
      more_length line lines,
      later_length later,
      length-append (with_crlf line) bytes,
      line_length line,
    )

reply_length : {bytes : Bytes} {code : ℕ} {lines : List Bytes} → IsReply bytes code lines
    → length (found_text lines) ≤ length bytes
reply_length (code_only {digits = digits} spells) =
    omega (arith, more_length [] [], line_length digits)
reply_length (single {digits = digits} {text = text} spells lacks) =
    omega (arith, more_length text [], after_digits digits text SP)
reply_length (several {digits = digits} {text = text} {bytes = bytes} {lines = lines}
    spells lacks later) =
    omega (
      arith,
      more_length text lines,
      later_length later,
      length-append (with_crlf (digits ++ DASH ∷ text)) bytes,
      after_digits digits text DASH,
    )

pub found_room : (bytes : Bytes) (text : Made) (out : Bytes) → IsFoundText bytes text
    → (written text out).text_length ≤ length bytes
found_room bytes (Ok text) out (code, lines, used, front, is) =
    rw is (omega (
      arith,
      filled_length (found_text lines) out,
      reply_length front.reply,
      ap length front.cut,
      length-append front.front front.rest,
    ))
found_room bytes (Err status) out is = omega arith
