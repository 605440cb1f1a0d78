-- What is logged by a number is what the log of the library has.
use Rattle.std.proofs.Common.{◌≡◌, ◌==◌, Bool, true, false, [], length, None, Ok, Err, refl}
use Rattle.std.specs.Prelude.{if◌then◌else◌}
use Rattle.std.specs.List.{AllByRecursion}
use Rattle.unftp_control_defs.specs.Bytes.{Bytes}
use Rattle.unftp_control_defs.specs.Events.{Refused, event_of, exceeds, line_too_long}
use Rattle.unftp_control_defs.specs.FtpCommand.{Outcome, InvalidCommand, InvalidEol, InvalidUtf8, User}
use Rattle.unftp_control_defs.specs.Outcome.{outcome}
use Rattle.unftp_control_log.specs.Known.{known}
use Rattle.unftp_control_log.specs.LogLine.{IsPrintable, hides, log_line, logged}
use Rattle.unftp_control_log.proofs.HiddenLemmas.{logged_alike}
use Rattle.unftp_control_log.proofs.PrintableLemmas.{log_line_prints}
use Rattle.unftp_control_c.specs.Next.{given_for}
use Rattle.unftp_control_c.specs.LogLines.{numbered_hides, numbered_log_line}
use Rattle.unftp_control_c.proofs.laws.log_lines_are_logged.Goals as goal

-- no event of a line within the limit has the number of one that is too long
number_apart : (answer : Outcome) → ((given_for (event_of answer)).number == 105) ≡ false
number_apart (Ok (User name)) = refl
number_apart (Ok command) = refl
number_apart (Err InvalidCommand) = refl
number_apart (Err InvalidUtf8) = refl
number_apart (Err InvalidEol) = refl

same_by : (line : Bytes) (too_long : Bool) → numbered_log_line
    (given_for (if too_long then Refused line_too_long else event_of (outcome line))).number line
    ≡ log_line (if too_long then Refused line_too_long else event_of (outcome line))
    (if too_long then [] else line)
same_by line true = refl
same_by line false = rw (number_apart (outcome line)) refl

hides_by : (line : Bytes) (too_long : Bool) → numbered_hides
    (given_for (if too_long then Refused line_too_long else event_of (outcome line))).number line
    ≡ hides (if too_long then Refused line_too_long else event_of (outcome line))
    (if too_long then [] else line)
hides_by line true = refl
hides_by line false = rw (number_apart (outcome line)) refl

prints_by : (line : Bytes) (too_long : Bool) → AllByRecursion IsPrintable
    (if too_long then log_line (Refused line_too_long) [] else logged None line)
prints_by line true = log_line_prints (Refused line_too_long) []
prints_by line false = log_line_prints (event_of (outcome line)) line

alike_by : (line other : Bytes) (too_long : Bool) → known None line ≡ known None other
    → (if too_long then log_line (Refused line_too_long) [] else logged None line)
    ≡ (if too_long then log_line (Refused line_too_long) [] else logged None other)
alike_by line other true same = refl
alike_by line other false same = logged_alike None line other same

pub returns : goal.returns
returns c = record {
  same = λ limit line is_line. same_by line (exceeds limit (length line));
  hides = λ limit line is_line. hides_by line (exceeds limit (length line));
  too_long = λ line other. refl;
  printable = λ number line. prints_by line (number == 105);
  secrets = λ number line other same. alike_by line other (number == 105) same;
}
