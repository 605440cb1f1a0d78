-- Whole replies, and those with which a proxy answers a line itself (RFC 959, section 4.2).
use Rattle.std.specs.Prelude.{◌≡◌, ℕ, ◌==◌, ◌&&◌, Bool, true, false, nat_le, nat_lt, not, List, [], length, codes, unwrap_or}
use Rattle.std.specs.List.{list_all}
use Rattle.unftp_control_defs.specs.Bytes.{Bytes, LF}
use Rattle.unftp_control_defs.specs.FtpReply.{FtpReply, CodeAndMsg, MultiLine, Nothing, reply_as_read}
use Rattle.unftp_control_defs.specs.ReplyReader.{FrontReply}
use Rattle.unftp_control_defs.specs.Turns.{is_preliminary, is_preliminary_reply}
use Rattle.unftp_control_message.specs.ReplyMeaning.{reply_of}
use Rattle.unftp_control_proxy.specs.declared.answer.Answer.{Answer}
use Rattle.unftp_control_proxy.specs.declared.answer.Answer.TheVariants as answer
use Rattle.unftp_control_proxy.specs.declared.errors.SendError.{SendError}
use Rattle.unftp_control_proxy.specs.declared.errors.SendError.TheVariants as send

-- ---- bytes that are one reply

-- The bytes are one reply of this code, and no more.
abbrev pub IsReplyOf : ℕ → Bytes → Type 0
IsReplyOf code bytes = (lines : List Bytes) × FrontReply bytes code lines (length bytes)

-- So they are, and no other reply to the same line follows.
abbrev pub IsFinalReply : Bytes → Type 0
IsFinalReply bytes = (code : ℕ) × IsReplyOf code bytes × (is_preliminary code ≡ false)

-- the code and the lines that a client reads
abbrev pub as_read : FtpReply → ℕ × List Bytes
as_read reply = unwrap_or (reply_as_read reply) (0, [])

-- ---- replies that may be answers

-- a reply after which no other to the same line follows
abbrev pub is_final_reply : FtpReply → Bool
is_final_reply Nothing = false
is_final_reply reply = not (is_preliminary_reply reply)

-- no line feed is in the text
abbrev pub is_one_line : Bytes → Bool
is_one_line text = list_all (λ b. not (b == LF)) text

-- a client reads it back as it is: the test for `IsPlain`
abbrev pub has_three_digits : ℕ → Bool
has_three_digits code = nat_le 100 code && nat_lt code 1000

abbrev pub is_plain_reply : FtpReply → Bool
is_plain_reply Nothing = true
is_plain_reply (CodeAndMsg code text) = has_three_digits code && is_one_line text
is_plain_reply (MultiLine code lines) = has_three_digits code && list_all is_one_line lines

-- A line may be answered with it.
abbrev pub is_answer : FtpReply → Bool
is_answer reply = is_final_reply reply && is_plain_reply reply

-- why no line is answered with this reply
abbrev pub IsNoAnswer : FtpReply → SendError → Type 0
IsNoAnswer reply send.NotFinal = is_final_reply reply ≡ false
IsNoAnswer reply send.NotPlain = (is_final_reply reply ≡ true) × (is_plain_reply reply ≡ false)
IsNoAnswer reply _ = ⊥

-- ---- the answers of a proxy

-- to a line that it refuses, and to one that is too long
abbrev pub refused_reply : FtpReply
refused_reply = CodeAndMsg 500 (codes "Not understood")

abbrev pub long_reply : FtpReply
long_reply = CodeAndMsg 500 (codes "Line too long")

abbrev pub answer_reply : Answer → FtpReply
answer_reply (answer.Reply reply) = reply_of reply
answer_reply answer.NotUnderstood = refused_reply
answer_reply answer.LineTooLong = long_reply
