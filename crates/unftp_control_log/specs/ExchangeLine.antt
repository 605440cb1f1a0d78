-- An exchange as one line of a log: its line, an arrow, and its replies, each as its code, a number
-- without leading zeros, and its lines, as `RETR a -> 150 Opening | 226 Done`.
use Rattle.std.specs.Prelude.{List, [], ◌∷◌, ◌++◌, decimal, flat_map, Option, None, Some, codes}
use Rattle.unftp_control_defs.specs.Bytes.{Bytes, SP}
use Rattle.unftp_control_log.specs.LogLine.{shown}
use Rattle.unftp_control_log.specs.Exchanges.{Entry, Read}

-- The lines of a reply (RFC 959, section 4.2), with an escaped CR LF between two of them. One empty
-- line is no text: it is that of a reply of only a code.
abbrev pub further_line : Bytes → Bytes
further_line line = codes "\\r\\n" ++ shown line

abbrev pub lines_text : List Bytes → Bytes
lines_text [] = []
lines_text ([] ∷ []) = []
lines_text (line ∷ lines) = SP ∷ (shown line ++ flat_map further_line lines)

abbrev pub reply_text : Read → Bytes
reply_text reply = decimal reply.0 ++ lines_text reply.1

-- the replies, with a bar between two of them
abbrev pub further_reply : Read → Bytes
further_reply reply = codes " | " ++ reply_text reply

abbrev pub replies_text : List Read → Bytes
replies_text [] = []
replies_text (reply ∷ replies) = SP ∷ (reply_text reply ++ flat_map further_reply replies)

-- what the exchange is to: nothing is shown of the connection
abbrev pub line_text : Option Bytes → Bytes
line_text None = []
line_text (Some line) = line ++ SP ∷ []

abbrev pub exchange_line : Entry → Bytes
exchange_line entry = line_text entry.line ++ (codes "->" ++ replies_text entry.replies)
