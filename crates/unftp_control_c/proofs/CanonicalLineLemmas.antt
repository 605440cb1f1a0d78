-- What is reported of a canonical line.
use Rattle.std.proofs.Common.{◌≡◌, ◌≢◌, Ok, Err, refl, inl, inr}
use Rattle.unftp_control_defs.specs.Bytes.{Bytes}
use Rattle.unftp_control_defs.specs.FtpCommand.{FtpCommand, Refusal, InvalidCommand, InvalidUtf8, InvalidEol}
use Rattle.unftp_control_defs.specs.Lines.{IsLine}
use Rattle.unftp_control_defs.specs.Outcome.{outcome}
use Rattle.unftp_control_defs.specs.Canonical.{HasLine}
use Rattle.unftp_control_defs.proofs.CommandLineLemmas.{HasLine-outcome}
use Rattle.unftp_control_message.specs.declared.reply.error.parse_error.ParseErrorKind.{ParseErrorKind}
use Rattle.unftp_control_message.specs.declared.reply.error.parse_error.ParseErrorKind.TheVariants as kind
use Rattle.unftp_control_codecs.specs.Memory.{IfOutOfMemory, MayTakeMemory}
use Rattle.unftp_control_codecs.specs.ParseAnswer.{Refuses}
use Rattle.unftp_control_write.specs.declared.WriteCommandError.{WriteCommandError}
use Rattle.unftp_control_write.specs.declared.WriteCommandError.TheVariants as error
use Rattle.unftp_control_c.specs.declared.status.Status.TheVariants.{Done, NoLine}
use Rattle.unftp_control_c.specs.Numbers.{kind_status, line_status, refusal_status}
use Rattle.unftp_control_c.specs.CanonicalLines.{IsCanonical}

pub refused_line : (line : Bytes) (why : ParseErrorKind) → Refuses (outcome line) why
    → IfOutOfMemory why (MayTakeMemory line) → IsCanonical line (Err (kind_status why))
refused_line line kind.InvalidCommand h memory = (InvalidCommand, h, refl)
refused_line line kind.InvalidUtf8 h memory = (InvalidUtf8, h, refl)
refused_line line kind.InvalidEol h memory = (InvalidEol, h, refl)
refused_line line kind.OutOfMemory h memory = inl memory

pub unwritten_line : (line : Bytes) {command : FtpCommand} (why : WriteCommandError)
    → outcome line ≡ Ok command → (HasLine command → why ≡ error.OutOfMemory)
    → (why ≡ error.OutOfMemory → HasLine command) → IsCanonical line (Err (line_status why))
unwritten_line line {command} error.NoLine read has_line memory =
    (command, read, λ h. let out = has_line h in cc)
unwritten_line line {command} error.OutOfMemory read has_line memory =
    inr (command, read, memory refl)

pub has_line : (line : Bytes) → IsCanonical line (Err NoLine) → IsLine line → ⊥
has_line line none is_line = none.2 (HasLine-outcome line none.0 is_line none.1)

-- no refusal is reported as done
pub not_done : (refusal : Refusal) → Done ≢ refusal_status refusal
not_done InvalidCommand e = cc
not_done InvalidUtf8 e = cc
not_done InvalidEol e = cc
