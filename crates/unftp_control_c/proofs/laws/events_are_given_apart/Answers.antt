-- What is given says the event.
use Rattle.std.proofs.Common.{◌≡◌, ◌==◌, ℕ, true, nat_lt, [], ◌∷◌, ◌++◌, length, Option, Some, None, option_map, Ok, Err, codes, refl, sym, ap, subst, ◌∙◌, inl, inr, arith, decimal}
use Rattle.std.specs.Prelude.{if◌then◌else◌, ◌||◌, find, unwrap_or}
use Rattle.std.proofs.lemmas.Bool.{cond_both}
use Rattle.std.proofs.lemmas.Fmt.{decimal_nonempty}
use Rattle.unftp_control_defs.specs.Bytes.{Bytes, crlf}
use Rattle.unftp_control_defs.specs.Canonical.{HasLine, HasRoom, canonical_body, canonical_line, site_body, with_option_end, with_optional}
use Rattle.unftp_control_defs.specs.Events.{Fault, FtpEvent, Command, Refused, event_of, event_for, exceeds, line_too_long, refusal_fault}
use Rattle.unftp_control_defs.specs.FtpCommand.{FtpCommand, User, Pass, Acct, List as Listing, Site, Other, Outcome, Refusal, InvalidCommand, InvalidUtf8, InvalidEol, Value, Nothing, Raw, Text, Chosen, Number, maybe_raw, maybe_text, number, unless_empty, said, verbs, word}
use Rattle.unftp_control_defs.specs.Said.{HasTypedFields, IsTyped, choice_word, command_number, name_on_line, value_bytes}
use Rattle.unftp_control_defs.specs.Lines.{IsLine}
use Rattle.unftp_control_defs.specs.Outcome.{outcome}
use Rattle.unftp_control_defs.specs.declared.verb.Verb.TheVariants as verb
use Rattle.unftp_control_defs.specs.declared.parameters.Choice.{Choice}
use Rattle.unftp_control_defs.specs.declared.parameters.Choice.TheVariants as choices
use Rattle.unftp_control_defs.specs.declared.parameters.AuthParam.TheVariants.{Ssl}
use Rattle.unftp_control_defs.specs.declared.parameters.ModeParam.TheVariants.{Stream}
use Rattle.unftp_control_defs.specs.declared.parameters.Opt.TheVariants.{Utf8}
use Rattle.unftp_control_defs.specs.declared.parameters.ProtParam.TheVariants.{Clear}
use Rattle.unftp_control_defs.specs.declared.parameters.StruParam.TheVariants.{File}
use Rattle.unftp_control_defs.proofs.CanonicalLineLemmas.{outcome-canonical_line}
use Rattle.unftp_control_defs.proofs.CommandLineLemmas.{HasLine-outcome, HasTypedFields-outcome}
use Rattle.unftp_control_defs.proofs.CommandRoundTripLemmas.{unless_empty-some}
use Rattle.unftp_control_c.specs.Taking.{IsNumberOf}
use Rattle.unftp_control_c.specs.Next.{Given, given_for}
use Rattle.unftp_control_c.proofs.laws.events_are_given_apart.Goals as goal

-- the canonical line of a command that is given so
abbrev parameter_given : ℕ → Option Bytes → Option Bytes
parameter_given number value =
    if number == 6 then Some (codes "I") else (if number == 30 then Some (codes "0") else
    (if number == 17 then option_map with_option_end value else value))

abbrev body_given : ℕ → Bytes → Option Bytes → Bytes
body_given number name value = if number == 42 || number == 43
    then site_body name value
    else with_optional name (parameter_given number value)

-- the word that a number says, and else the name
abbrev name_given : ℕ → Bytes → Bytes
name_given n name = name_on_line (if n == 42 then word verb.Md5 else
    unwrap_or (option_map (λ row. word row.1) (find (λ row. number row.1 == n) verbs)) []) name

abbrev line_given : Given → Bytes
line_given given = body_given given.number (name_given given.number given.name)
    (unless_empty given.value) ++ crlf

abbrev fault_numbered : ℕ → Fault
fault_numbered number =
    if number == 102 then refusal_fault InvalidCommand else
    (if number == 103 then refusal_fault InvalidUtf8 else
    (if number == 104 then refusal_fault InvalidEol else line_too_long))

abbrev event_given : Given → FtpEvent
event_given given =
    if nat_lt given.number 101 then event_of (outcome (line_given given)) else
    Refused (fault_numbered given.number)

text_bytes : (text : Option Bytes) → value_bytes (maybe_text text) ≡ text
text_bytes None = refl
text_bytes (Some text) = refl

-- it is the one that it was
body_kept : (command : FtpCommand)
    → body_given (command_number command)
    (name_given (command_number command) (said command).name) (value_bytes (said command).value)
    ≡ canonical_body command
body_kept (Listing options path) =
    ap (λ path. with_optional (codes "LIST") (option_map with_option_end path)) (text_bytes path)
body_kept (Site name arguments) = ap (site_body name) (text_bytes (unless_empty arguments))
body_kept _ = refl

-- and so is its value: none is empty
choice_back : (choice : Choice) → unless_empty (choice_word choice) ≡ Some (choice_word choice)
choice_back (choices.Structure File) = refl
choice_back (choices.Mode Stream) = refl
choice_back (choices.Protection Clear) = refl
choice_back (choices.Mechanism Ssl) = refl
choice_back (choices.Setting (Utf8 true)) = refl
choice_back choice = refl

abbrev IsBack : Value → Type 0
IsBack value = unless_empty (unwrap_or (value_bytes value) []) ≡ value_bytes value

back : (value : Value) → HasRoom value → IsTyped value → IsBack value
back Nothing room typed = refl
back (Raw bytes) room typed = unless_empty-some bytes room.0
back (Text text) room typed = unless_empty-some text room.0
back (Chosen choice) room typed = choice_back choice
back (Number number) room small = unless_empty-some (decimal number)
    (λ e. omega (arith, decimal_nonempty number small, ap length e))

raw_back : (bytes : Bytes) → IsBack (maybe_raw (unless_empty bytes))
raw_back [] = refl
raw_back (b ∷ bytes) = refl

text_back : (text : Bytes) → IsBack (maybe_text (unless_empty text))
text_back [] = refl
text_back (b ∷ text) = refl

value_back : (command : FtpCommand) → HasLine command → HasTypedFields command
    → IsBack (said command).value
value_back (User name) has_line typed = raw_back name
value_back (Pass password) has_line typed = raw_back password
value_back (Acct account) has_line typed = raw_back account
value_back (Listing options path) has_line typed = back (maybe_text path) has_line.1 typed.1
value_back (Site name arguments) has_line typed = text_back arguments
value_back (Other name arguments) has_line typed = text_back arguments
value_back command has_line typed = back (said command).value has_line typed

line_kept : (command : FtpCommand) → HasLine command → HasTypedFields command
    → line_given (given_for (Command command)) ≡ canonical_line command
line_kept command has_line typed =
    rw (value_back command has_line typed) (ap (λ body. body ++ crlf) (body_kept command))

is_command : (command : FtpCommand) → nat_lt (command_number command) 101 ≡ true
is_command (User name) = refl
is_command _ = refl

command_kept : (command : FtpCommand) → HasLine command → HasTypedFields command
    → event_given (given_for (Command command)) ≡ Command command
command_kept command has_line typed =
    rw (
      is_command command,
      line_kept command has_line typed,
      outcome-canonical_line command has_line typed,
    ) refl

refusal_kept : (refusal : Refusal) → event_given (given_for (Refused (refusal_fault refusal)))
    ≡ Refused (refusal_fault refusal)
refusal_kept InvalidCommand = refl
refusal_kept InvalidUtf8 = refl
refusal_kept InvalidEol = refl

answer_kept : (line : Bytes) → IsLine line → (answer : Outcome) → outcome line ≡ answer
    → event_given (given_for (event_of answer)) ≡ event_of answer
answer_kept line is_line (Ok command) read =
    command_kept command (HasLine-outcome line command is_line read)
    (HasTypedFields-outcome line command is_line read)
answer_kept line is_line (Err refusal) read = refusal_kept refusal

-- what is so of a line that is too long, and of what each other means, is so of a line's event
event_by : (P : FtpEvent → Type 0) (limit : Option ℕ) (line : Bytes) → P (Refused line_too_long)
    → P (event_of (outcome line)) → P (event_for limit line)
event_by P limit line long short = cond_both (exceeds limit (length line)) (Refused line_too_long)
    (event_of (outcome line)) P (λ _. long) (λ _. short)

event_kept : (limit : Option ℕ) (line : Bytes) → IsLine line
    → event_given (given_for (event_for limit line)) ≡ event_for limit line
event_kept limit line is_line = event_by (λ event. event_given (given_for event) ≡ event) limit line
    refl (answer_kept line is_line (outcome line) refl)

same_command : (a b : FtpCommand) → Command a ≡ Command b → a ≡ b
same_command a b e = cc

same_commands : (command other : FtpCommand) → HasLine command → HasTypedFields command
    → HasLine other → HasTypedFields other
    → given_for (Command command) ≡ given_for (Command other) → command ≡ other
same_commands command other line typed other_line other_typed e =
    same_command command other (sym (command_kept command line typed) ∙ ap event_given e
    ∙ command_kept other other_line other_typed)

same_events : (limit other_limit : Option ℕ) (line other : Bytes) → IsLine line → IsLine other
    → given_for (event_for limit line) ≡ given_for (event_for other_limit other)
    → event_for limit line ≡ event_for other_limit other
same_events limit other_limit line other is_line is_other e = sym (event_kept limit line is_line)
    ∙ ap event_given e ∙ event_kept other_limit other is_other

-- the number of a refused line
same_fault : (a b : Fault) → Refused a ≡ Refused b → a ≡ b
same_fault a b e = cc

refusal_numbered : (refusal : Refusal)
    → IsNumberOf (refusal_fault refusal).kind (given_for (Refused (refusal_fault refusal))).number
refusal_numbered InvalidCommand = inl refl
refusal_numbered InvalidUtf8 = refl
refusal_numbered InvalidEol = inr refl

fault_numbered_so : (made fault : Fault)
    → IsNumberOf made.kind (given_for (Refused made)).number → Refused made ≡ Refused fault
    → IsNumberOf fault.kind (given_for (Refused fault)).number
fault_numbered_so made fault so e =
    subst (λ f. IsNumberOf f.kind (given_for (Refused f)).number) (same_fault made fault e) so

answer_numbered : (answer : Outcome) (fault : Fault) → event_of answer ≡ Refused fault
    → IsNumberOf fault.kind (given_for (Refused fault)).number
answer_numbered (Ok command) fault e = absurd (cc)
answer_numbered (Err refusal) fault e =
    fault_numbered_so (refusal_fault refusal) fault (refusal_numbered refusal) e

kinds_numbered : (limit : Option ℕ) (line : Bytes) (fault : Fault)
    → event_for limit line ≡ Refused fault
    → IsNumberOf fault.kind (given_for (Refused fault)).number
kinds_numbered limit line fault = event_by
    (λ event. event ≡ Refused fault → IsNumberOf fault.kind (given_for (Refused fault)).number)
    limit line (fault_numbered_so line_too_long fault refl) (answer_numbered (outcome line) fault)

-- the law
pub returns : goal.returns
returns c = record {
  commands = same_commands;
  events = same_events;
  kinds = kinds_numbered;
}
