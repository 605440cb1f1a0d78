-- How many bytes the reply of a text has.
use Rattle.std.proofs.Common.{ℕ, ◌+◌, ◌-◌, ◌*◌, ◌<◌, ◌≤◌, ◌==◌, ◌&&◌, List, [], ◌∷◌, ◌++◌, length, decimal, Ok, Err, ap, arith, length-append}
use Rattle.std.specs.Prelude.{nat_le}
use Rattle.std.specs.List.{count_by, join_with_byte, slice_split}
use Rattle.std.specs.Str.Lines.{strip_carriage_return}
use Rattle.std.proofs.lemmas.Bool.{cond_both}
use Rattle.std.proofs.lemmas.Fmt.{length-decimal-le}
use Rattle.std.proofs.lemmas.List.{length-take}
use Rattle.std.proofs.lemmas.List.Sums.{count_by-le-length}
use Rattle.std.proofs.lemmas.List.Splits.{join_with_byte-slice_split, length-slice_split}
use Rattle.unftp_control_defs.specs.Bytes.{Bytes, LF, SP, DASH, Lacks, crlf}
use Rattle.unftp_control_defs.specs.FtpReply.{CodeAndMsg, MultiLine, encoded, lines_after_code, padded, spaced_line}
use Rattle.unftp_control_codecs.specs.LineFeed.{is_line_feed}
use Rattle.unftp_control_codecs.specs.ReplyCodes.{IsReplyCode}
use Rattle.unftp_control_commands.specs.ReplyTexts.{QUOTE, doubled, quoted}
use Rattle.unftp_control_c.specs.declared.status.Status.TheVariants.{UnknownCode}
use Rattle.unftp_control_c.specs.Areas.{Made, filled, written}
use Rattle.unftp_control_c.specs.Replies.{parts_as_lines, reply_bytes, reply_of_lines, text_lines, text_reply}
use Rattle.unftp_control_c.proofs.AreaLemmas.{filled_length}
use Rattle.unftp_control_c.proofs.ReplyLemmas.{code_is, one_reply, several_reply}

stripped_length : (line : Bytes) → length (strip_carriage_return line) ≤ length line
stripped_length line = grind (arith, length-take (length line - 1) line)

padded_length : (line : Bytes) → length (padded line) ≤ length line + 1
padded_length [] = omega arith
padded_length (b ∷ line) = grind arith

module _ (code : ℕ) (is_code : IsReplyCode code) where
  digits : length (decimal code) ≤ 3
  digits = length-decimal-le 3 code (omega arith) (omega (arith, is_code.1))
      (omega (arith, is_code.1))

  last_length : (line : Bytes) → length (decimal code ++ spaced_line line) ≤ length line + 6
  last_length line =
      omega (
        arith,
        digits,
        length-append (decimal code) (spaced_line line),
        length-append (SP ∷ line) crlf,
      )

  middle_length : (line next : Bytes) (lines : List Bytes)
      → length (lines_after_code code line (next ∷ lines))
      ≤ length line + 3 + length (lines_after_code code next lines)
  middle_length line next lines = omega (
    arith,
    padded_length line,
    length-append (padded line ++ crlf) (lines_after_code code next lines),
    length-append (padded line) crlf,
  )

  -- the lines of a text, whose parts an LF divides
  after_code_length : (line : Bytes) (parts : List Bytes)
      → length (lines_after_code code line (parts_as_lines parts))
      ≤ length line + length (join_with_byte LF parts) + 2 * length parts + 7
  after_code_length line [] = omega (arith, last_length line)
  after_code_length line (part ∷ []) =
      omega (arith, middle_length line part [], last_length part)
  after_code_length line (part ∷ next ∷ parts) =
      let stripped : Bytes = strip_carriage_return part in
      omega (
        arith,
        middle_length line stripped (parts_as_lines (next ∷ parts)),
        stripped_length part,
        after_code_length stripped (next ∷ parts),
        length-append part (LF ∷ join_with_byte LF (next ∷ parts)),
      )

  opened_length : (line : Bytes) (lines : List Bytes)
      → length (encoded (MultiLine code (line ∷ lines)))
      ≤ length (lines_after_code code line lines) + 4
  opened_length line [] = omega arith
  opened_length line (next ∷ lines) = omega (
    arith,
    digits,
    length-append (decimal code) (DASH ∷ lines_after_code code line (next ∷ lines)),
  )

  parts_length : (parts : List Bytes) → 0 < length parts
      → length (encoded (MultiLine code (parts_as_lines parts)))
      ≤ length (join_with_byte LF parts) + 2 * (length parts - 1) + 10
  parts_length [] some = absurd (omega (arith, some))
  parts_length (part ∷ []) some = omega (arith, last_length part)
  parts_length (part ∷ next ∷ parts) some =
      let stripped : Bytes = strip_carriage_return part in
      omega (
        arith,
        opened_length stripped (parts_as_lines (next ∷ parts)),
        stripped_length part,
        after_code_length stripped (next ∷ parts),
        length-append part (LF ∷ join_with_byte LF (next ∷ parts)),
      )

  one_length : (text : Bytes) → length (encoded (CodeAndMsg code text)) ≤ length text + 6
  one_length text =
      grind (arith, digits, last_length text, length-append (decimal code) crlf)

  parts_reply : (parts : List Bytes) → 0 < length parts
      → length (encoded (reply_of_lines code (parts_as_lines parts)))
      ≤ length (join_with_byte LF parts) + 2 * (length parts - 1) + 10
  parts_reply [] some = absurd (omega (arith, some))
  parts_reply (part ∷ []) some = omega (arith, one_length part)
  parts_reply (part ∷ next ∷ []) some = parts_length (part ∷ next ∷ []) some
  parts_reply (part ∷ next ∷ more ∷ parts) some = parts_length (part ∷ next ∷ more ∷ parts) some

  reply_length : (text : Bytes) → length (encoded (text_reply code text))
      ≤ length text + 2 * count_by is_line_feed text + 10
  reply_length text =
      let count = length-slice_split (λ b. b == LF) text in
      let whole = rw (join_with_byte-slice_split LF text) at
      (parts_reply (slice_split (λ b. b == LF) text) (omega (arith, count))) in
      omega (arith, count, whole)

-- of several lines, by the text's length alone
pub lines_room : (code : ℕ) (text : Bytes) → IsReplyCode code → ¬ Lacks LF text
    → length (encoded (MultiLine code (text_lines text))) ≤ 3 * length text + 10
lines_room code text is several = omega (
  arith,
  ap (λ reply. length (encoded reply)) (several_reply code text several),
  reply_length code is text,
  count_by-le-length is_line_feed text,
)

pub reply_room : (code : ℕ) (text out : Bytes)
    → ((written (reply_bytes code text) out).text_length
    ≤ length text + 2 * count_by is_line_feed text + 10)
    × (Lacks LF text → (written (reply_bytes code text) out).text_length ≤ length text + 6)
reply_room code text out = cond_both {A = Made} (nat_le 100 code && nat_le code 599)
    (Ok (encoded (text_reply code text))) (Err UnknownCode)
    (λ found. ((written found out).text_length
    ≤ length text + 2 * count_by is_line_feed text + 10)
    × (Lacks LF text → (written found out).text_length ≤ length text + 6))
    (λ is. let reported = filled_length (encoded (text_reply code text)) out in (
      omega (arith, reported, reply_length code (code_is code is) text),
      λ one. omega (
        arith,
        reported,
        ap (λ reply. length (encoded reply)) (one_reply code text one),
        one_length code (code_is code is) text,
      ),
    ))
    (λ _. (omega arith, λ one. omega arith))

doubled_length : (path : Bytes) → length (doubled path) ≤ 2 * length path
doubled_length [] = omega arith
doubled_length (b ∷ path) = grind (arith, doubled_length path)

pub quoted_room : (path out : Bytes) → (filled (quoted path) out).text_length ≤ 2 * length path + 2
quoted_room path out = omega (
  arith,
  filled_length (quoted path) out,
  doubled_length path,
  length-append (doubled path) (QUOTE ∷ []),
)
