-- The line of a log for an exchange: what a log shows of a client's line, and its replies.
use Rattle.std.specs.Prelude.{⊤, ◌≡◌, ◌≢◌, [], List, Ok, Err}
use Rattle.std.specs.List.{AllByRecursion}
use Rattle.unftp_control_defs.specs.Bytes.{Bytes}
use Rattle.unftp_control_defs.specs.FtpCommand.{unless_empty}
use Rattle.unftp_control_defs.specs.ReplyReader.{IsMalformed, IsPartial}
use Rattle.unftp_control_defs.specs.TakingSteps.{AreReplies}
use Rattle.unftp_control_log.specs.LogLine.{IsPrintable}
use Rattle.unftp_control_log.specs.ExchangeLine.{exchange_line}
use Rattle.unftp_control_log.specs.Exchanges.{Read}
use Rattle.unftp_control_c.specs.declared.status.Status.{Status}
use Rattle.unftp_control_c.specs.declared.status.Status.TheVariants.{InvalidArgument, Malformed, More, OutOfMemory}
use Rattle.unftp_control_c.specs.Areas.{Made}

abbrev pub ArePrintable : Bytes → Type 0
ArePrintable text = AllByRecursion IsPrintable text

-- The log's line of what is shown of a line, and of replies. Where nothing is shown, these are to
-- the connection.
abbrev pub shown_exchange : Bytes → List Read → Bytes
shown_exchange shown replies =
    exchange_line (record { line = unless_empty shown; replies = replies })

-- The bytes are some replies, one after the other (RFC 959, section 4.2), and then these.
abbrev pub EndsIn : (Bytes → Type 0) → Bytes → Type 0
EndsIn Holds bytes = (replies : List Read) × (rest : Bytes) × AreReplies bytes replies rest
    × Holds rest

-- a reply has begun, and is incomplete
abbrev pub IsCutOff : Bytes → Type 0
IsCutOff bytes = (bytes ≢ []) × IsPartial bytes

-- why bytes are not read as replies; or they are some replies, and there was no memory
abbrev pub IsNotRead : Bytes → Status → Type 0
IsNotRead bytes More = EndsIn IsCutOff bytes
IsNotRead bytes Malformed = EndsIn IsMalformed bytes
IsNotRead bytes OutOfMemory = (replies : List Read) × AreReplies bytes replies []
IsNotRead bytes _ = ⊥

-- The same; but where memory ran out on the way, the bytes after that may be any.
abbrev pub IsLeftUnread : Bytes → Status → Type 0
IsLeftUnread bytes OutOfMemory = ⊤
IsLeftUnread bytes status = IsNotRead bytes status

-- The line, or why there is none: first a byte that isn't printable in what is shown, and then
-- bytes that are not all replies.
abbrev pub IsExchangeLine : Bytes → Bytes → Made → Type 0
IsExchangeLine shown bytes (Ok text) = ArePrintable shown × (replies : List Read)
    × AreReplies bytes replies [] × (text ≡ shown_exchange shown replies)
IsExchangeLine shown bytes (Err InvalidArgument) = ¬ ArePrintable shown
IsExchangeLine shown bytes (Err status) = ArePrintable shown × IsNotRead bytes status
