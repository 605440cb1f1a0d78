-- A limit on the length of a reply, in bytes, its line ends counted. RFC 959 names none: a client
-- sets it, to bound what it keeps of a reply that a server doesn't end.
use Rattle.std.specs.Prelude.{ℕ, ◌≤◌, length, take, Option, None, Some}
use Rattle.unftp_control_defs.specs.Bytes.{Bytes}
use Rattle.unftp_control_defs.specs.ReplyReader.{IsPartial}

-- the bytes that a reply may have: the first `limit` ones, or all
abbrev pub within_limit : Option ℕ → Bytes → Bytes
within_limit None bytes = bytes
within_limit (Some limit) bytes = take limit bytes

-- The first `limit` bytes are there, and only a part of a reply, so it has more of them. Without a
-- limit no reply is too long.
abbrev pub IsTooLongReply : Option ℕ → Bytes → Type 0
IsTooLongReply None bytes = ⊥
IsTooLongReply (Some limit) bytes = (limit ≤ length bytes) × IsPartial (take limit bytes)
