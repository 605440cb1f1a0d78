-- What may be known of a line from its log line.
use Rattle.std.specs.Prelude.{ℕ, Bool, is_some, if◌then◌else◌, Option, Some, None}
use Rattle.unftp_control_defs.specs.Bytes.{Bytes}
use Rattle.unftp_control_defs.specs.Events.{Fault, FtpEvent, Command, Refused, event_for}
use Rattle.unftp_control_defs.specs.FtpCommand.{verbs}
use Rattle.unftp_control_defs.specs.Rules.{row_of}
use Rattle.unftp_control_defs.specs.Verbs.{parameter_of, upper, verb_of}
use Rattle.unftp_control_defs.specs.declared.verb.Verb.{Verb as Ruled}
use Rattle.unftp_control_defs.specs.declared.verb.Verb.TheVariants as verbs_of
use Rattle.unftp_control_log.specs.LogLine.{listed_verb, shown_parameter, shown_value, shows_arguments, unless_too_long}

-- the subcommand of a line of SITE in upper case, where it is listed
abbrev pub subcommand_by : Option Ruled → Bytes → Option Bytes
subcommand_by (Some verbs_of.Site) parameter = if is_some (shows_arguments (verb_of parameter))
    then Some (upper (verb_of parameter)) else None
subcommand_by _ parameter = None

abbrev pub listed_subcommand : Bytes → Option Bytes
listed_subcommand line =
    subcommand_by (row_of (upper (verb_of line)) verbs) (parameter_of line)

-- The parameter is shown after a verb with a rule of its own, but not after PASS, ACCT, SYST and
-- HELP; and after SITE where the subcommand is one whose arguments are shown.
abbrev pub shows_parameter : Bytes → Bool
shows_parameter line = is_some (shown_parameter line)

abbrev pub fault_in : FtpEvent → Option Fault
fault_in (Command command) = None
fault_in (Refused fault) = Some fault

-- Of a refused line no value is known.
abbrev pub known_value : FtpEvent → Bytes → Option Bytes
known_value (Command command) line = shown_value line
known_value (Refused fault) line = None

-- Why it is refused, if it is; its verb and its subcommand of SITE, where they are listed; and of a
-- command the value of its parameter, but only where that is shown.
pub record Known : Type 0 where
  pub fault : Option Fault
  pub verb : Option Bytes
  pub subcommand : Option Bytes
  pub value : Option Bytes

abbrev pub known_of : FtpEvent → Bytes → Known
known_of event line = record {
  fault = fault_in event;
  verb = listed_verb line;
  subcommand = listed_subcommand line;
  value = known_value event line;
}

-- of a line under a limit; of one that is too long only that it is
abbrev pub known : Option ℕ → Bytes → Known
known limit line = known_of (event_for limit line) (unless_too_long limit line)
