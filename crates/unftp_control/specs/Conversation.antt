-- A client that sends lines and takes replies, and a server that answers each line: what each
-- understands of the other (RFC 959, sections 4.2 and 5.3).
use Rattle.std.specs.Prelude.{◌≡◌, ℕ, false, List, ◌++◌, flat_map, length, map, Option, Some, Ok, Err}
use Rattle.std.specs.List.{concat}
use Rattle.unftp_control_defs.specs.Bytes.{Bytes}
use Rattle.unftp_control_defs.specs.Canonical.{canonical_line, HasLine}
use Rattle.unftp_control_defs.specs.Events.{exceeds}
use Rattle.unftp_control_defs.specs.Forwarded.{forwarded_line}
use Rattle.unftp_control_defs.specs.FtpCommand.{Outcome, FtpCommand}
use Rattle.unftp_control_defs.specs.Said.{HasTypedFields}
use Rattle.unftp_control_defs.specs.FtpReply.{FtpReply, reply_as_read}
use Rattle.unftp_control_defs.specs.Lines.{IsLine, lines_of, incomplete_line}
use Rattle.unftp_control_defs.specs.Outcome.{outcome}
use Rattle.unftp_control_defs.specs.Turns.{cut_reads}

-- what a client sends for these commands: their canonical lines
abbrev pub sent : List FtpCommand → Bytes
sent commands = flat_map canonical_line commands

-- The command has a line, and fields of their types, and its line is within the server's limit.
abbrev pub CanBeSent : Option ℕ → FtpCommand → Type 0
CanBeSent limit command = HasLine command × HasTypedFields command
    × (exceeds limit (length (canonical_line command)) ≡ false)

-- What a client has read is what these replies show: one for each, at its place.
abbrev pub Show : List (ℕ × List Bytes) → List FtpReply → Type 0
Show read replies = map Some read ≡ map reply_as_read replies

-- The same of the replies to each event: the client cuts what it has read after each final reply,
-- and so has one part for each event.
abbrev pub ShowTurns : List (ℕ × List Bytes) → List (List FtpReply) → Type 0
ShowTurns read turns = map (map Some) (cut_reads read) ≡ map (map reply_as_read) turns

-- Each complete line of an input is rewritten, as by a proxy.
abbrev pub rewritten : (Bytes → Bytes) → Bytes → Bytes
rewritten rewrite input = concat (map rewrite (lines_of input)) ++ incomplete_line input

-- a line is written as a line that means the same
abbrev pub KeepsMeaning : (Bytes → Bytes) → Type 0
KeepsMeaning rewrite = (line : Bytes) → IsLine line
    → IsLine (rewrite line) × (outcome (rewrite line) ≡ outcome line)

-- The line of a command is replaced by the one that `write` makes of it, its canonical line or the
-- line that a proxy forwards. A refused line stays as it is.
abbrev pub written_if_read : (Bytes → FtpCommand → Bytes) → Bytes → Outcome → Bytes
written_if_read write line (Ok command) = write line command
written_if_read write line (Err refusal) = line

abbrev pub canonical_of : Bytes → Bytes
canonical_of line = written_if_read (λ _ command. canonical_line command) line (outcome line)

abbrev pub forwarded_of : Bytes → Bytes
forwarded_of line = written_if_read forwarded_line line (outcome line)
