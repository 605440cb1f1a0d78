-- What one call of `decode` does to a codec and its buffer, and what it returns.
use Rattle.std.specs.Prelude.{◌≡◌, ℕ, ◌⊎◌, take, drop, Option, None, Some, Result, Ok, Err}
use Rattle.unftp_control_defs.specs.Bytes.{Bytes}
use Rattle.unftp_control_defs.specs.Events.{Fault, FtpEvent, Command, Refused, event_of, OutOfMemory, Parse, line_too_long}
use Rattle.unftp_control_message.specs.declared.Command.{Command as RustCommand}
use Rattle.unftp_control_message.specs.CommandMeaning.{command_of}
use Rattle.unftp_control_message.specs.ErrorParts.{KindAndSource}
use Rattle.unftp_control_message.specs.ErrorMeaning.{fault_of}
use Rattle.unftp_control_defs.specs.Outcome.{outcome}
use Rattle.unftp_control_codecs.specs.Memory.{MayTakeMemory}
use Rattle.unftp_control_codecs.specs.declared.FirstLine.{FirstLine}
use Rattle.unftp_control_codecs.specs.declared.FirstLine.TheVariants.{Incomplete, TooLong, Complete}
use Rattle.unftp_control_codecs.specs.Codec.{Codec}
use Rattle.unftp_control_codecs.specs.FirstLine.{first_line, goes_on, reset}

abbrev pub Decoded : Type 0
Decoded = Result (Option RustCommand) KindAndSource

-- the event that is returned, if any
abbrev pub returned_event : Decoded → Option FtpEvent
returned_event (Ok None) = None
returned_event (Ok (Some command)) = Some (Command (command_of command))
returned_event (Err error) = Some (Refused (fault_of error))

-- the answer is that memory ran out
abbrev pub IsOutOfMemory : Decoded → Type 0
IsOutOfMemory (Ok command) = ⊥
IsOutOfMemory (Err error) = (fault_of error).kind ≡ OutOfMemory

-- the error that it is then: its source is the parser's error, which is out of memory too
abbrev pub parser_out_of_memory : Fault
parser_out_of_memory = record { kind = OutOfMemory; source = Parse None }

-- This is returned, the codec is then this one, and so many bytes leave the start of the buffer.
pub record Answers (returned : Option FtpEvent) (codec : Codec) (n : ℕ) (new : Codec)
    (before after : Bytes) (answer : Decoded) : Type 0 where
  -- Exactly this event is returned, or none.
  pub returned_is : returned_event answer ≡ returned
  -- The codec is exactly this one.
  pub goes_on_at : new ≡ codec
  -- Only the first n bytes leave the buffer: those after them stay.
  pub taken : after ≡ drop n before

-- Where no line is complete, the bytes stay, or are dropped where the line is too long already. A
-- line that is too long is refused, whatever it holds. Of any other the outcome is returned; or
-- memory ran out, which it may take, and only the count of scanned bytes changes.
abbrev pub DecodesFound : FirstLine → Codec → Codec → Bytes → Bytes → Decoded → Type 0
DecodesFound (Incomplete n) old new before after answer =
    Answers None (goes_on old before) n new before after answer
DecodesFound (TooLong n) old new before after answer =
    Answers (Some (Refused line_too_long)) (goes_on old before) n new before after answer
DecodesFound (Complete n) old new before after answer =
    Answers (Some (event_of (outcome (take n before)))) (reset (goes_on old before)) n new
    before after answer
    ⊎ (MayTakeMemory (take n before)
    × Answers (Some (Refused parser_out_of_memory)) (goes_on old before) 0 new before after answer)

abbrev pub Decodes : Codec → Codec → Bytes → Bytes → Decoded → Type 0
Decodes old new before after answer =
    DecodesFound (first_line old before) old new before after answer
