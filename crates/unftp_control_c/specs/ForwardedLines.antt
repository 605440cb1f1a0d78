-- The line that is forwarded for a line.
use Rattle.std.specs.Prelude.{◌≡◌, ◌++◌, ⊤, Result, Ok, Err}
use Rattle.unftp_control_defs.specs.Bytes.{Bytes, crlf}
use Rattle.unftp_control_defs.specs.Canonical.{with_optional}
use Rattle.unftp_control_defs.specs.Lines.{IsLine}
use Rattle.unftp_control_defs.specs.FtpCommand.{FtpCommand, Raw, Refusal, Text, Value, word}
use Rattle.unftp_control_defs.specs.Outcome.{outcome}
use Rattle.unftp_control_defs.specs.Forwarded.{forwarded_line, with_parameter}
use Rattle.unftp_control_defs.specs.Said.{value_bytes}
use Rattle.unftp_control_defs.specs.Verbs.{parameter_of, upper, verb_of}
use Rattle.unftp_control_message.specs.PartsMeaning.{said_value}
use Rattle.unftp_control_c.specs.declared.forwarding.Forwarded.{Forwarded}
use Rattle.unftp_control_c.specs.declared.forwarding.Forwarded.TheVariants.{Kept, Typed}
use Rattle.unftp_control_c.specs.declared.status.Status.{Status}
use Rattle.unftp_control_c.specs.declared.status.Status.TheVariants.{NoLine}
use Rattle.unftp_control_c.specs.Numbers.{refusal_status}
use Rattle.unftp_control_c.specs.Areas.{Made}

-- a value of a type of its own, or none: no CR is in it
abbrev pub HasNoText : Value → Type 0
HasNoText (Raw bytes) = ⊥
HasNoText (Text text) = ⊥
HasNoText _ = ⊤

-- what is written is counted and put together without memory
abbrev pub IsWritable : Forwarded → Type 0
IsWritable (Kept text) = ⊤
IsWritable (Typed verb value) = HasNoText (said_value value)

abbrev pub forwarded_text : Forwarded → Bytes
forwarded_text (Kept text) =
    with_parameter (upper (verb_of text.now)) (parameter_of text.now) ++ crlf
forwarded_text (Typed verb value) =
    with_optional (word verb) (value_bytes (said_value value)) ++ crlf

-- that line, or why there is none
abbrev pub IsForwardedLine : Bytes → Made → Type 0
IsForwardedLine line (Ok bytes) = (command : FtpCommand) × (outcome line ≡ Ok command)
    × (bytes ≡ forwarded_line line command)
IsForwardedLine line (Err NoLine) = ¬ IsLine line
IsForwardedLine line (Err status) =
    (refusal : Refusal) × (outcome line ≡ Err refusal) × (status ≡ refusal_status refusal)

-- So a line is sent: in one line, which is read as it is.
pub record IsSentFor (line : Bytes) (forwarded : Forwarded) : Type 0 where
  pub writable : IsWritable forwarded
  pub is : IsForwardedLine line (Ok (forwarded_text forwarded))
  pub one_line : IsLine (forwarded_text forwarded)
  pub read_back : outcome (forwarded_text forwarded) ≡ outcome line

abbrev pub ForwardsTo : Bytes → Result Forwarded Status → Type 0
ForwardsTo line (Ok forwarded) = IsLine line × IsSentFor line forwarded
ForwardsTo line (Err NoLine) = ¬ IsLine line
ForwardsTo line (Err status) = IsLine line × IsForwardedLine line (Err status)
