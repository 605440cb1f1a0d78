-- What is made of what `decode` returns, where only NOOP is known.
use Rattle.std.specs.Prelude.{◌≡◌, ◌≢◌, ◌⊎◌, ◌↔◌, Bool, false, IsTrue, Option, Some, None, Result, Ok, Err}
use Rattle.unftp_control_message.specs.CommandMeaning.{command_of}
use Rattle.unftp_control_codecs.specs.Decoding.{Decoded}
use Rattle.unftp_control_message.specs.ErrorMeaning.{fault_of}
use Rattle.unftp_control_message.specs.ErrorParts.{KindAndSource}
use Rattle.unftp_control_defs.specs.Events.{OutOfMemory}
use Rattle.unftp_control_defs.specs.FtpCommand.{Noop}

-- No line; whether the command is NOOP; out of memory, as it is; and any other refusal is no NOOP.
abbrev pub IsNextNoop : Decoded → Result (Option Bool) KindAndSource → Type 0
IsNextNoop (Ok None) result = result ≡ Ok None
IsNextNoop (Ok (Some command)) (Ok (Some is_noop)) = IsTrue is_noop ↔ (command_of command ≡ Noop)
IsNextNoop (Ok (Some command)) result = ⊥
IsNextNoop (Err error) result =
    (((fault_of error).kind ≡ OutOfMemory) × (result ≡ Err error))
    ⊎ (((fault_of error).kind ≢ OutOfMemory) × (result ≡ Ok (Some false)))
