-- An exchange of a control connection (RFC 959, sections 4.2 and 5.4): a line of the client, or the
-- connection, which the server greets; and the server's replies to it.
use Rattle.std.specs.Prelude.{ℕ, List, Option, map, option_map}
use Rattle.std.specs.declared.vec.Vec.{Vec}
use Rattle.std.specs.declared.alloc.Global.{Global}
use Rattle.unftp_control_defs.specs.Bytes.{Bytes}
use Rattle.unftp_control_read.specs.ReplyDecoding.{content}
use Rattle.unftp_control_log.specs.declared.write.Exchange.{Exchange}

-- a reply that was read: its code and its lines
abbrev pub Read : Type 0
Read = ℕ × List Bytes

-- What the exchange is to: a line, as a log shows it, or, where there is none, the connection,
-- which the server greets; and its replies.
pub record Entry : Type 0 where
  pub line : Option Bytes
  pub replies : List Read

-- the text of a line, whatever its capacity
abbrev pub held_text : Option (Vec ℕ Global) → Option Bytes
held_text line = option_map (λ line. line.items) line

-- what an exchange holds, whatever the capacity of its texts
abbrev pub entry_of : Exchange → Entry
entry_of exchange = record {
  line = held_text exchange.line;
  replies = map content exchange.replies.items;
}
