-- The canonical line of a line's command.
use Rattle.std.specs.Prelude.{◌≡◌, ◌⊎◌, Ok, Err}
use Rattle.unftp_control_defs.specs.Bytes.{Bytes}
use Rattle.unftp_control_defs.specs.FtpCommand.{FtpCommand, Refusal}
use Rattle.unftp_control_defs.specs.Outcome.{outcome}
use Rattle.unftp_control_defs.specs.Canonical.{HasLine, canonical_line}
use Rattle.unftp_control_codecs.specs.Memory.{MayTakeMemory}
use Rattle.unftp_control_c.specs.declared.status.Status.TheVariants.{NoLine, OutOfMemory}
use Rattle.unftp_control_c.specs.Numbers.{refusal_status}
use Rattle.unftp_control_c.specs.Areas.{Made}

-- Memory may be taken to read the line, or for the canonical line of its command.
abbrev pub CanonicalMayTakeMemory : Bytes → Type 0
CanonicalMayTakeMemory line = MayTakeMemory line
    ⊎ ((command : FtpCommand) × (outcome line ≡ Ok command) × HasLine command)

-- that line, or why there is none
abbrev pub IsCanonical : Bytes → Made → Type 0
IsCanonical line (Ok bytes) = (command : FtpCommand) × (outcome line ≡ Ok command)
    × HasLine command × (bytes ≡ canonical_line command)
IsCanonical line (Err NoLine) =
    (command : FtpCommand) × (outcome line ≡ Ok command) × ¬ HasLine command
IsCanonical line (Err OutOfMemory) = CanonicalMayTakeMemory line
IsCanonical line (Err status) =
    (refusal : Refusal) × (outcome line ≡ Err refusal) × (status ≡ refusal_status refusal)
