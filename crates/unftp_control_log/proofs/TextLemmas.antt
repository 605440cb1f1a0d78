-- Each byte of the text of an exchange is printable.
use Rattle.std.proofs.Common.{◌<◌, ◌+◌, ◌/◌, ◌%◌, nat_lt, ◌==◌, ℕ, zero, suc, false, List, [], ◌∷◌, ◌++◌, Option, None, Some, codes, arith, mod-lt}
use Rattle.std.specs.Prelude.{decimal, flat_map}
use Rattle.std.specs.Fmt.{digits, digits_onto, digit_glyph}
use Rattle.std.specs.Option.{IfSome}
use Rattle.std.proofs.lemmas.Bool.{cond_both}
use Rattle.unftp_control_defs.specs.Bytes.{Bytes, SP}
use Rattle.unftp_control_defs.proofs.ExchangeLemmas.{all-append}
use Rattle.unftp_control_log.specs.LogLine.{IsPrintable, shown}
use Rattle.unftp_control_log.proofs.PrintableLemmas.{ArePrintable, shown_prints}
use Rattle.unftp_control_log.specs.ExchangeLine.{exchange_line, further_line, further_reply, line_text, lines_text, replies_text, reply_text}
use Rattle.unftp_control_log.specs.Exchanges.{Entry, Read}

joined : (text more : Bytes) → ArePrintable text → ArePrintable more → ArePrintable (text ++ more)
joined text more first second = all-append IsPrintable text more first second

all_joined : {X : Type 0} (f : X → Bytes) → ((x : X) → ArePrintable (f x)) → (xs : List X)
    → ArePrintable (flat_map f xs)
all_joined f each [] = tt
all_joined f each (x ∷ xs) = joined (f x) (flat_map f xs) (each x) (all_joined f each xs)

-- the digits of a number
glyph_prints : (d : ℕ) → d < 10 → IsPrintable (digit_glyph false d)
glyph_prints d small = cond_both (nat_lt d 10) (48 + d) (87 + d) IsPrintable
    (λ _. (omega arith, omega arith)) (λ _. (omega arith, omega arith))

onto_prints : (k n : ℕ) (more : Bytes) → ArePrintable more
    → ArePrintable (digits_onto k 10 false n more)
onto_prints zero n more all = all
onto_prints (suc k) n more all =
    let next : Bytes = digit_glyph false (n % 10) ∷ more in
    let prints : ArePrintable next = (glyph_prints (n % 10) (mod-lt n (omega arith)), all) in
    cond_both (n / 10 == 0) next (digits_onto k 10 false (n / 10) next) ArePrintable (λ _. prints)
    (λ _. onto_prints k (n / 10) next prints)

decimal_prints : (n : ℕ) → ArePrintable (decimal n)
unfolding digits
decimal_prints n = onto_prints 64 n [] tt

-- a reply
further_line_prints : (line : Bytes) → ArePrintable (further_line line)
further_line_prints line = joined (codes "\\r\\n") (shown line) (
  (omega arith, omega arith),
  (
    (omega arith, omega arith),
    ((omega arith, omega arith), ((omega arith, omega arith), tt)),
  ),
) (shown_prints line)

some_lines_print : (line : Bytes) (lines : List Bytes)
    → ArePrintable (SP ∷ (shown line ++ flat_map further_line lines))
some_lines_print line lines = (
  (omega arith, omega arith),
  joined (shown line) (flat_map further_line lines) (shown_prints line)
      (all_joined further_line further_line_prints lines),
)

lines_print : (lines : List Bytes) → ArePrintable (lines_text lines)
lines_print [] = tt
lines_print ([] ∷ []) = tt
lines_print ([] ∷ next ∷ lines) = some_lines_print [] (next ∷ lines)
lines_print ((b ∷ line) ∷ lines) = some_lines_print (b ∷ line) lines

reply_prints : (reply : Read) → ArePrintable (reply_text reply)
reply_prints reply =
    joined (decimal reply.0) (lines_text reply.1) (decimal_prints reply.0) (lines_print reply.1)

further_reply_prints : (reply : Read) → ArePrintable (further_reply reply)
further_reply_prints reply = joined (codes " | ") (reply_text reply) (
  (omega arith, omega arith),
  ((omega arith, omega arith), ((omega arith, omega arith), tt)),
) (reply_prints reply)

replies_print : (replies : List Read) → ArePrintable (replies_text replies)
replies_print [] = tt
replies_print (reply ∷ replies) = (
  (omega arith, omega arith),
  joined (reply_text reply) (flat_map further_reply replies) (reply_prints reply)
      (all_joined further_reply further_reply_prints replies),
)

-- an exchange
line_prints : (line : Option Bytes) → IfSome line ArePrintable → ArePrintable (line_text line)
line_prints None all = tt
line_prints (Some line) all = joined line _ all ((omega arith, omega arith), tt)

pub exchange_prints : (entry : Entry) → IfSome entry.line ArePrintable
    → ArePrintable (exchange_line entry)
exchange_prints entry all =
    joined (line_text entry.line) (codes "->" ++ replies_text entry.replies)
    (line_prints entry.line all)
    ((omega arith, omega arith), ((omega arith, omega arith), replies_print entry.replies))
