-- A buffer whose bytes come in pieces at its end, and are taken from its start.
use Rattle.std.specs.Prelude.{ℕ, ◌+◌, ◌-◌, ◌≤◌, if◌then◌else◌, nat_lt, drop, length}
use Rattle.unftp_control_defs.specs.Bytes.{Bytes}
use Rattle.unftp_control_defs.specs.declared.buffer.PendingBytes.{PendingBytes}

-- the bytes that are not taken
abbrev pub pending_in : PendingBytes → Bytes
pending_in buffer = drop buffer.start buffer.bytes.items

-- no more bytes are taken than there are
abbrev pub IsTakenWithin : PendingBytes → Type 0
IsTakenWithin buffer = buffer.start ≤ length buffer.bytes.items

-- How many bytes it holds once a piece came, of those that it held and of which so many were
-- pending: those that were taken leave it where they are more than what is pending then.
abbrev pub held_after_piece : (held pending piece : ℕ) → ℕ
held_after_piece held pending piece =
    if nat_lt (pending + piece) (held - pending) then pending + piece else held + piece
