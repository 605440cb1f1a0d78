-- What `forward` appends for a line, and why it appends nothing.
use Rattle.std.specs.Prelude.{◌≡◌, ◌++◌, ℕ, if◌then◌else◌, Some, Ok, Err, IsOk}
use Rattle.std.specs.Global.{Vec}
use Rattle.unftp_control_defs.specs.Bytes.{Bytes, crlf}
use Rattle.unftp_control_defs.specs.Lines.{IsLine}
use Rattle.unftp_control_defs.specs.FtpCommand.{FtpCommand, Refusal, Said, kind, word}
use Rattle.unftp_control_defs.specs.Outcome.{outcome}
use Rattle.unftp_control_defs.specs.Canonical.{with_optional}
use Rattle.unftp_control_defs.specs.Forwarded.{forwarded_line, kind_keeps, with_parameter}
use Rattle.unftp_control_defs.specs.Said.{value_bytes}
use Rattle.unftp_control_defs.specs.Verbs.{verb_of, parameter_of, upper}
use Rattle.unftp_control_message.specs.ParseRefusal.{refusal_of}
use Rattle.unftp_control_write.specs.declared.forwarding.ForwardError.{ForwardError}
use Rattle.unftp_control_write.specs.declared.forwarding.ForwardError.TheVariants.{NotALine, Refused, OutOfMemory}
use Rattle.unftp_control_defs.specs.Room.{LacksRoom}

-- The line that is forwarded for the command of this line comes after the bytes from before. It has
-- one LF, its last byte, and means the same.
pub record IsForwarded (line before after : Bytes) : Type 0 where
  pub command : FtpCommand
  pub means : outcome line ≡ Ok command
  pub appended : after ≡ before ++ forwarded_line line command
  pub is_line : IsLine (forwarded_line line command)
  pub read_back : outcome (forwarded_line line command) ≡ Ok command

-- The bytes are not one line; or the line is refused for that reason; or memory ran out for the
-- line that is forwarded.
abbrev pub IsForwardError : Bytes → ForwardError → Type 0
IsForwardError line NotALine = ¬ IsLine line
IsForwardError line (Refused kind) =
    (refusal : Refusal) × (refusal_of kind ≡ Some refusal) × (outcome line ≡ Err refusal)
IsForwardError line OutOfMemory = IsOk (outcome line)

-- The line is a command, and the buffer has no room for the line that is forwarded for it.
pub record LacksRoomFor (line : Bytes) (buf : Vec ℕ) : Type 0 where
  pub command : FtpCommand
  pub means : outcome line ≡ Ok command
  pub room : LacksRoom buf (forwarded_line line command)

-- what is forwarded for a text, a line without its end, that says this
abbrev pub sent_line : Bytes → Said → Bytes
sent_line text parts = if kind_keeps (kind parts.verb)
    then with_parameter (upper (verb_of text)) (parameter_of text) ++ crlf
    else with_optional (word parts.verb) (value_bytes parts.value) ++ crlf
