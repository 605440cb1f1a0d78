-- The line of a log for a line of a client.
use Rattle.std.specs.Prelude.{◌≡◌, ℕ, ◌==◌, Bool, true, if◌then◌else◌, [], None, Ok, Err, ⊤}
use Rattle.unftp_control_defs.specs.Bytes.{Bytes}
use Rattle.unftp_control_defs.specs.Events.{Refused, line_too_long}
use Rattle.unftp_control_log.specs.LogLine.{hides_part, log_line, logged}
use Rattle.unftp_control_c.specs.declared.status.Status.TheVariants.{LineTooLong, OutOfMemory}
use Rattle.unftp_control_c.specs.Numbers.{status_number}
use Rattle.unftp_control_c.specs.Areas.{Made}

-- The number is what `unftp_next` returned for the line. Where it says that the line is longer than
-- the limit, nothing is read of it, since bytes of it may have been dropped.
abbrev pub numbered_log_line : ℕ → Bytes → Bytes
numbered_log_line number line = if number == status_number LineTooLong
    then log_line (Refused line_too_long) []
    else logged None line

-- whether that does not show all of the line
abbrev pub numbered_hides : ℕ → Bytes → Bool
numbered_hides number line = if number == status_number LineTooLong then true
    else hides_part None line

-- there is one, but when out of memory
abbrev pub IsLogLine : ℕ → Bytes → Made → Type 0
IsLogLine number line (Ok bytes) = bytes ≡ numbered_log_line number line
IsLogLine number line (Err OutOfMemory) = ⊤
IsLogLine number line (Err status) = ⊥
