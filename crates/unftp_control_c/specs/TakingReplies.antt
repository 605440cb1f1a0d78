-- What a caller of `unftp_next_reply` does, call after call, and what it is given.
use Rattle.std.specs.Prelude.{◌≡◌, ℕ, ◌+◌, ◌-◌, ◌==◌, if◌then◌else◌, List, [], ◌∷◌, ◌++◌, length, drop}
use Rattle.unftp_control_defs.specs.Bytes.{Bytes}
use Rattle.unftp_control_c.specs.declared.next_reply.ReplySearch.{ReplySearch}
use Rattle.unftp_control_c.specs.declared.status.Status.TheVariants.{Done, Malformed}
use Rattle.unftp_control_c.specs.NextReply.{LeavesReply, ReplyCall, ReplyLeft, reply_call, scans_reply}
use Rattle.unftp_control_c.specs.Numbers.{status_number}

-- before the first byte, with this limit
abbrev pub new_search : ℕ → ReplyCall
new_search limit = reply_call (record { limit = limit; line = 0; offset = 0 }) []

-- bytes that were received follow the pending ones
abbrev pub with_received : ReplyCall → Bytes → ReplyCall
with_received call piece = reply_call call.search (call.bytes ++ piece)

-- the reply that a call found is dropped
abbrev pub next_call : ReplyCall → ReplyLeft → ReplyCall
next_call call left = reply_call left.search (drop left.reply.used call.bytes)

-- what a caller does: it receives bytes, or it makes a call, which leaves this
pub data ReplyStep : Type 0 where
  Received : Bytes → ReplyStep
  Called : ReplyLeft → ReplyStep

-- These steps, in any order, lead from the one to the other; each call leaves what it may leave.
abbrev pub AreReplySteps : ReplyCall → List ReplyStep → ReplyCall → Type 0
AreReplySteps before [] after = after ≡ before
AreReplySteps before (Received piece ∷ steps) after =
    AreReplySteps (with_received before piece) steps after
AreReplySteps before (Called left ∷ steps) after = LeavesReply before left
    × AreReplySteps (next_call before left) steps after

-- all bytes that were received
abbrev pub received_in : List ReplyStep → Bytes
received_in [] = []
received_in (Received piece ∷ steps) = piece ++ received_in steps
received_in (Called left ∷ steps) = received_in steps

-- the code that a call gives
abbrev pub code_by : ReplyLeft → List ℕ
code_by left = if left.result == status_number Done then left.reply.code ∷ [] else []

-- the codes of the replies that the calls give
abbrev pub codes_in : List ReplyStep → List ℕ
codes_in [] = []
codes_in (Received piece ∷ steps) = codes_in steps
codes_in (Called left ∷ steps) = code_by left ++ codes_in steps

-- The most bytes that the calls of these steps scan for a line feed, without those that find a
-- malformed reply: after one, a caller ends the connection.
abbrev pub scanned_in : ReplyCall → List ReplyStep → ℕ
scanned_in call [] = 0
scanned_in call (Received piece ∷ steps) = scanned_in (with_received call piece) steps
scanned_in call (Called left ∷ steps) =
    (if left.result == status_number Malformed then 0 else scans_reply call left)
    + scanned_in (next_call call left) steps

-- how many of the pending bytes no call has scanned
abbrev pub unsearched : ReplyCall → ℕ
unsearched call = length call.bytes - call.search.offset
