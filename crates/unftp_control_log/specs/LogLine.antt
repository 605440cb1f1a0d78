-- What a log shows of an event and its line: printable text in one line, and nothing of a password
-- or an account, also where it is typed as a line of its own.
use Rattle.std.specs.Prelude.{◌≡◌, ℕ, ◌≤◌, ◌==◌, Bool, true, false, not, ◌&&◌, ◌||◌, is_some, unwrap_or, if◌then◌else◌, List, [], ◌∷◌, ◌++◌, length, Option, Some, None, option_and_then, option_map, bytes_eq, codes, decimal}
use Rattle.std.specs.Char.Escape.{escape_ascii}
use Rattle.std.specs.List.{flat_map, list_any}
use Rattle.unftp_control_defs.specs.Bytes.{Bytes}
use Rattle.unftp_control_defs.specs.ComputedValue.{value_of}
use Rattle.unftp_control_defs.specs.Events.{FaultKind, FaultSource, FtpEvent, Command, Refused, Parse, event_for}
use Rattle.unftp_control_defs.specs.FtpCommand.{Chosen, Number, Said, Value, said, unless_empty, verbs, word}
use Rattle.unftp_control_defs.specs.Said.{choice_word}
use Rattle.unftp_control_defs.specs.Rules.{row_of}
use Rattle.unftp_control_defs.specs.Texts.{kind_reason, reading_text}
use Rattle.unftp_control_defs.specs.Verbs.{parameter_of, upper, verb_of}
use Rattle.unftp_control_defs.specs.declared.verb.Verb.{Verb as Ruled}
use Rattle.unftp_control_defs.specs.declared.verb.Verb.TheVariants as verbs_of
use Rattle.unftp_control_write.specs.Lines.{spaced_part}
pub use Rattle.unftp_control_serve.specs.ClientLines.{unless_too_long}

-- a space, or a character of ASCII that prints (RFC 20)
abbrev pub IsPrintable : ℕ → Type 0
IsPrintable b = (32 ≤ b) × (b ≤ 126)

-- The bytes as `escape_ascii` of Rust writes them. Those that are printable are as they are, but a
-- backslash and a quote after a backslash. Tab, CR and LF are `\t`, `\r` and `\n`, and any other is
-- `\x` and two hexadecimal digits.
abbrev pub shown : Bytes → Bytes
shown text = flat_map escape_ascii text

-- a byte that is shown as it is
abbrev pub IsShownPlain : ℕ → Type 0
IsShownPlain b = escape_ascii b ≡ b ∷ []

-- the text that is shown for what is hidden
abbrev pub asterisks : Bytes
asterisks = codes "***"

-- The verbs with no rule of their own here that are words of FTP. They are of the registry of its
-- commands (RFC 5797, section 3; ALGS of RFC 6384, HOST of RFC 7151) and of RFC 1123, section
-- 4.1.3.1 (XCUP, XRMD).
abbrev pub further_verbs : List Bytes
further_verbs =
    codes "ADAT" ∷ codes "ALGS" ∷ codes "CONF" ∷ codes "ENC" ∷ codes "EPRT" ∷ codes "HOST"
    ∷ codes "LANG" ∷ codes "LPRT" ∷ codes "LPSV" ∷ codes "MIC" ∷ codes "REIN" ∷ codes "SMNT"
    ∷ codes "XCUP" ∷ codes "XRMD" ∷ []

-- A verb that a log shows, ignoring ASCII case (RFC 959, section 5.3). Any other may be a mistyped
-- PASS, or a password.
abbrev pub is_listed : Bytes → Bool
is_listed verb = is_some (row_of (upper verb) verbs)
    || list_any (bytes_eq (upper verb)) further_verbs

-- The subcommands of SITE (RFC 959, section 4.1.3) that a log shows, in upper case, and whether it
-- shows their arguments: those that are modes, seconds, times and paths. Servers take passwords
-- with GPASS and PSWD, and any text with the others.
abbrev pub site_words : List (Bytes × Bool)
site_words =
    (codes "CHMOD", true) ∷ (codes "IDLE", true) ∷ (codes "MD5", true) ∷ (codes "UMASK", true)
    ∷ (codes "UTIME", true)
    ∷ (codes "EXEC", false) ∷ (codes "GPASS", false) ∷ (codes "GROUP", false)
    ∷ (codes "HELP", false) ∷ (codes "PSWD", false) ∷ []

-- so of a subcommand in letters of any case; none where not even the subcommand is shown
abbrev pub shows_arguments : Bytes → Option Bool
shows_arguments name = row_of (upper name) site_words

-- ---- of a line

-- Of these verbs no parameter is shown: that of PASS and ACCT is a secret (RFC 959, section 4.1.1),
-- and SYST and HELP ignore any text.
abbrev pub hides_parameter : Ruled → Bool
hides_parameter verbs_of.Pass = true
hides_parameter verbs_of.Acct = true
hides_parameter verbs_of.Syst = true
hides_parameter verbs_of.Help = true
hides_parameter _ = false

-- that of a subcommand of SITE
abbrev pub shown_argument : Bytes → Option Bytes
shown_argument parameter = if unwrap_or (shows_arguments (verb_of parameter)) false
    then Some (parameter_of parameter) else None

abbrev pub parameter_by : Option Ruled → Bytes → Option Bytes
parameter_by None parameter = None
parameter_by (Some verbs_of.Site) parameter = shown_argument parameter
parameter_by (Some verb) parameter = if hides_parameter verb then None else Some parameter

-- the parameter of a line, or of its subcommand of SITE, where it is shown
abbrev pub shown_parameter : Bytes → Option Bytes
shown_parameter line = parameter_by (row_of (upper (verb_of line)) verbs) (parameter_of line)

-- Its value, as the bytes that were sent (RFC 854): none where it is empty, or after an invalid
-- line ending, which TYPE, EPSV and ALLO ignore.
abbrev pub shown_value : Bytes → Option Bytes
shown_value line = option_and_then unless_empty (option_and_then value_of (shown_parameter line))

-- so of the words that a line begins with (RFC 959, section 5.3)
abbrev pub shows_after : Ruled → Bytes → Bool
shows_after verbs_of.Other name = false
shows_after verbs_of.Site name = unwrap_or (shows_arguments name) false
shows_after verb name = not (hides_parameter verb)

-- ---- of an event

-- What a log shows of an event.
pub data Visible : Type 0 where
  -- a verb, and a value, if any
  Verb : Bytes → Option Bytes → Visible
  -- a subcommand of SITE, and its arguments, if any
  Subcommand : Bytes → Option Bytes → Visible
  -- a refused line: its verb, if it is listed, and why
  RefusedLine : Option Bytes → Bytes → Visible

abbrev pub visible_other : Bool → Bytes → Visible
visible_other true verb = Verb verb (Some asterisks)
visible_other false verb = Verb asterisks None

abbrev pub visible_site : Option Bool → Bytes → Option Bytes → Visible
visible_site (Some true) name arguments = Subcommand name arguments
visible_site (Some false) name arguments = Subcommand name (Some asterisks)
visible_site None name arguments = Subcommand asterisks None

-- Of a password and an account nothing, not even whether it is empty; nor of the arguments of a
-- verb with no rule of its own.
abbrev pub visible_verb : Ruled → Bytes → Option Bytes → Visible
visible_verb verbs_of.Pass name value = Verb (codes "PASS") (Some asterisks)
visible_verb verbs_of.Acct name value = Verb (codes "ACCT") (Some asterisks)
visible_verb verbs_of.Other name value = visible_other (is_listed name) (upper name)
visible_verb verbs_of.Site name value = visible_site (shows_arguments name) (upper name) value
visible_verb verbs_of.Md5 name value = Subcommand (codes "MD5") value
visible_verb verb name value = Verb (word verb) value

-- A word and a number are shown as a canonical line has them, and any other value as it was sent.
abbrev pub visible_value : Value → Option Bytes → Option Bytes
visible_value (Chosen choice) sent = Some (choice_word choice)
visible_value (Number number) sent = Some (decimal number)
visible_value _ sent = sent

abbrev pub visible_said : Said → Option Bytes → Visible
visible_said parts sent =
    visible_verb parts.verb parts.name (visible_value parts.value sent)

-- the verb of a line in upper case, where it is listed
abbrev pub listed_verb : Bytes → Option Bytes
listed_verb line = if is_listed (verb_of line) then Some (upper (verb_of line)) else None

-- Why a line was refused: the parser's words, or else those for the kind. A command that was not
-- known is not shown.
abbrev pub reason : FaultSource → FaultKind → Bytes
reason (Parse why) kind = reading_text why
reason _ kind = kind_reason kind

-- The command says which verb is shown, and the line which value: so nothing is shown of the
-- parameter of a line whose own verb hides it, whatever the command.
abbrev pub visible : FtpEvent → Bytes → Visible
visible (Command command) line = visible_said (said command) (shown_value line)
visible (Refused fault) line = RefusedLine (listed_verb line) (reason fault.source fault.kind)

-- ---- what is not shown

abbrev pub is_empty_value : Option Bytes → Bool
is_empty_value None = false
is_empty_value (Some v) = length v == 0

-- A part of a command's line is not shown: a secret, a verb that is not listed, or arguments that
-- are hidden, also where there are none. So it is with a text that SYST and HELP ignore, and with a
-- parameter with an invalid line ending, which TYPE, EPSV and ALLO ignore.
abbrev pub hides_by : Option Ruled → Bytes → Bool
hides_by (Some verbs_of.Syst) line = not (is_empty_value (value_of (parameter_of line)))
hides_by (Some verbs_of.Help) line = not (is_empty_value (value_of (parameter_of line)))
hides_by row line = not (is_some (option_and_then value_of (shown_parameter line)))

-- so of the words that a line begins with, and the value of their parameter
abbrev pub hides_after : Ruled → Bytes → Option Bytes → Bool
hides_after verbs_of.Syst name value = not (is_empty_value value)
hides_after verbs_of.Help name value = not (is_empty_value value)
hides_after verb name value = not (shows_after verb name && is_some value)

-- Of a refused line nothing of the parameter is shown.
abbrev pub hides : FtpEvent → Bytes → Bool
hides (Command command) line = hides_by (row_of (upper (verb_of line)) verbs) line
hides (Refused fault) line = true

-- ---- the text

abbrev pub visible_text : Visible → Bytes
visible_text (Verb verb value) = verb ++ spaced_part (option_map shown value)
visible_text (Subcommand name arguments) =
    codes "SITE " ++ name ++ spaced_part (option_map shown arguments)
visible_text (RefusedLine verb reason) =
    codes "refused" ++ spaced_part verb ++ codes ": " ++ reason

abbrev pub log_line : FtpEvent → Bytes → Bytes
log_line event line = visible_text (visible event line)

-- the log line of a line under a limit, and whether it hides a part of that
abbrev pub logged : Option ℕ → Bytes → Bytes
logged limit line = log_line (event_for limit line) (unless_too_long limit line)

abbrev pub hides_part : Option ℕ → Bytes → Bool
hides_part limit line = hides (event_for limit line) (unless_too_long limit line)
