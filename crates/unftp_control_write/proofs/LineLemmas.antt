-- The line of a command of which it says no more than a name and a value.
use Rattle.std.proofs.Common.{◌≡◌, ◌≢◌, [], ◌∷◌, ◌++◌, Option, Some, None, codes, refl, sym, ap, ◌∙◌, arith, append-nil, true, false, String, Global}
use Rattle.std.specs.Prelude.{◌↔◌, ⊤}
use Rattle.std.proofs.lemmas.Fmt.{decimal_nonempty}
use Rattle.unftp_control_defs.specs.Bytes.{Bytes, LF, SP, Lacks}
use Rattle.unftp_control_defs.specs.Values.{escaped}
use Rattle.unftp_control_defs.specs.FtpCommand.{FtpCommand, User, Pass, Acct, TypeCode, Allo, List as Listing, Md5, Site, Other, Value, Nothing, Raw, Text, Chosen, Number, maybe_raw, unless_empty, said}
use Rattle.unftp_control_defs.specs.declared.parameters.AuthParam.TheVariants.{Ssl, Tls}
use Rattle.unftp_control_defs.specs.declared.parameters.Choice.{Choice}
use Rattle.unftp_control_defs.specs.declared.parameters.Choice.TheVariants as choices
use Rattle.unftp_control_defs.specs.declared.parameters.ModeParam.TheVariants.{Stream, Block, Compressed}
use Rattle.unftp_control_defs.specs.declared.parameters.Opt.TheVariants.{Utf8}
use Rattle.unftp_control_defs.specs.declared.parameters.ProtParam.TheVariants.{Clear, Safe, Confidential, Private}
use Rattle.unftp_control_defs.specs.declared.parameters.StruParam.TheVariants.{File, Record, Page}
use Rattle.unftp_control_defs.specs.Said.{HasTypedFields, IsTyped, choice_word, name_and_value, value_bytes}
use Rattle.unftp_control_defs.specs.Canonical.{HasLine, HasRoom, IsNonEmptyText, IsOptionalText, canonical_body, with_optional}
use Rattle.unftp_control_defs.proofs.LackLemmas.{Lacks-decimal, Lacks-test}
use Rattle.unftp_control_message.specs.CommandMeaning.{command_of}
use Rattle.unftp_control_message.specs.declared.Command.{Command}
use Rattle.unftp_control_message.specs.declared.Command.TheVariants as rust
use Rattle.unftp_control_write.specs.declared.line.Line.{Line}
use Rattle.unftp_control_write.specs.Lines.{ReturnsLine, line_body}

-- bytes that may be none, where none are left out
raw_room : (bytes : Bytes) → Lacks LF bytes ↔ HasRoom (maybe_raw (unless_empty bytes))
raw_room [] = (λ _. tt, λ _. tt)
raw_room (b ∷ bytes) = (λ lacks. (λ e. cc, lacks), λ fits. fits.1)

choice_fits : (choice : Choice) → IsNonEmptyText (choice_word choice)
choice_fits (choices.Structure File) = (λ e. cc, Lacks-test LF (codes "F") refl)
choice_fits (choices.Structure Record) = (λ e. cc, Lacks-test LF (codes "R") refl)
choice_fits (choices.Structure Page) = (λ e. cc, Lacks-test LF (codes "P") refl)
choice_fits (choices.Mode Stream) = (λ e. cc, Lacks-test LF (codes "S") refl)
choice_fits (choices.Mode Block) = (λ e. cc, Lacks-test LF (codes "B") refl)
choice_fits (choices.Mode Compressed) = (λ e. cc, Lacks-test LF (codes "C") refl)
choice_fits (choices.Protection Clear) = (λ e. cc, Lacks-test LF (codes "C") refl)
choice_fits (choices.Protection Safe) = (λ e. cc, Lacks-test LF (codes "S") refl)
choice_fits (choices.Protection Confidential) = (λ e. cc, Lacks-test LF (codes "E") refl)
choice_fits (choices.Protection Private) = (λ e. cc, Lacks-test LF (codes "P") refl)
choice_fits (choices.Mechanism Ssl) = (λ e. cc, Lacks-test LF (codes "SSL") refl)
choice_fits (choices.Mechanism Tls) = (λ e. cc, Lacks-test LF (codes "TLS") refl)
choice_fits (choices.Setting (Utf8 true)) = (λ e. cc, Lacks-test LF (codes "UTF8 ON") refl)
choice_fits (choices.Setting (Utf8 false)) = (λ e. cc, Lacks-test LF (codes "UTF8 OFF") refl)
choice_fits choices.NoBuffer = (λ e. cc, Lacks-test LF (codes "0") refl)

-- a value that a line has room for has such bytes
room : (value : Value) → IsTyped value → HasRoom value ↔ IsOptionalText (value_bytes value)
room Nothing typed = (λ fits. fits, λ fits. fits)
room (Raw bytes) typed = (λ fits. fits, λ fits. fits)
room (Text text) typed = (λ fits. fits, λ fits. fits)
room (Chosen choice) typed = (λ _. choice_fits choice, λ _. tt)
room (Number number) small = (
  λ _. (
    λ e. omega (arith, rw e at (decimal_nonempty number small)),
    Lacks-decimal LF number (omega arith),
  ),
  λ _. tt,
)

-- commands of whose line more is said
abbrev pub IsPlain : FtpCommand → Type 0
IsPlain TypeCode = ⊥
IsPlain Allo = ⊥
IsPlain (Listing options path) = ⊥
IsPlain (Md5 file) = ⊥
IsPlain (Site name arguments) = ⊥
IsPlain (Other name arguments) = ⊥
IsPlain _ = ⊤

-- a command that is none of these
pub record IsNoOther (command : Command) : Type 0 where
  pub no_type : command ≢ rust.TypeCode
  pub no_list : (options path : Option (String Global)) → command ≢ rust.List options path
  pub no_allo : command ≢ rust.Allo
  pub no_md5 : (file : String Global) → command ≢ rust.Md5 file
  pub no_site : (name arguments : String Global) → command ≢ rust.Site name arguments
  pub no_other : (name arguments : String Global) → command ≢ rust.Other name arguments

plain_command : (command : Command) → IsNoOther command → IsPlain (command_of command)
plain_command rust.TypeCode not = not.no_type refl
plain_command (rust.List options path) not = not.no_list options path refl
plain_command rust.Allo not = not.no_allo refl
plain_command (rust.Md5 file) not = not.no_md5 file refl
plain_command (rust.Site name arguments) not = not.no_site name arguments refl
plain_command (rust.Other name arguments) not = not.no_other name arguments refl
plain_command _ not = tt

plain_room : (command : FtpCommand) → IsPlain command
    → HasLine command ↔ HasRoom (said command).value
plain_room (User name) plain = raw_room name
plain_room (Pass password) plain = raw_room password
plain_room (Acct account) plain = raw_room account
plain_room (Listing options path) plain = absurd plain
plain_room (Site name arguments) plain = absurd plain
plain_room (Other name arguments) plain = absurd plain
plain_room _ plain = (λ fits. fits, λ fits. fits)

plain_typed : (command : FtpCommand) → IsPlain command → HasTypedFields command
    → IsTyped (said command).value
plain_typed (Listing options path) plain typed = absurd plain
plain_typed (Site name arguments) plain typed = absurd plain
plain_typed (Other name arguments) plain typed = absurd plain
plain_typed _ plain typed = typed

plain_has_line : (command : FtpCommand) → IsPlain command → HasTypedFields command
    → HasLine command ↔ IsOptionalText (name_and_value command).1
plain_has_line command plain typed =
    let has = plain_room command plain in
    let fits = room (said command).value (plain_typed command plain typed) in
    (λ line. fits.0 (has.0 line), λ text. has.1 (fits.1 text))

plain_body : (command : FtpCommand) → IsPlain command
    → canonical_body command ≡ with_optional (name_and_value command).0 (name_and_value command).1
plain_body TypeCode plain = absurd plain
plain_body Allo plain = absurd plain
plain_body (Listing options path) plain = absurd plain
plain_body (Md5 file) plain = absurd plain
plain_body (Site name arguments) plain = absurd plain
plain_body (Other name arguments) plain = absurd plain
plain_body _ plain = refl

-- a verb and a value, without a word between them
pub body_without_word : (verb : Bytes) (value : Option Bytes)
    → line_body verb None value ≡ with_optional verb value
body_without_word verb None = append-nil (verb ++ []) ∙ append-nil verb
body_without_word verb (Some text) = ap (λ word. word ++ SP ∷ escaped text) (append-nil verb)

-- what is returned is the line of a command for which the same holds
pub returned : {P Q : Type 0} {body other : Bytes} (line : Option Line) → P ↔ Q → body ≡ other
    → ReturnsLine P body line → ReturnsLine Q other line
returned None same e h = λ q. h (same.1 q)
returned (Some line) same e h = (same.0 h.0, h.1 ∙ e)

-- the line that says no more than the name and the value of the command
pub plain_line : {command : Command} (name : Bytes) (value : Option Bytes) (line : Option Line)
    → IsNoOther command → HasTypedFields (command_of command)
    → name ≡ (name_and_value (command_of command)).0
    → value ≡ (name_and_value (command_of command)).1
    → ReturnsLine (IsOptionalText value) (line_body name None value) line
    → ReturnsLine (HasLine (command_of command)) (canonical_body (command_of command)) line
plain_line {command} name value line not typed named valued h =
    let plain = plain_command command not in
    let has = plain_has_line (command_of command) plain typed in
    returned line
    (λ fits. has.1 (rw valued at fits), λ has_line. rw valued (has.0 has_line))
    (body_without_word name value ∙ (λ i. with_optional (named i) (valued i))
    ∙ sym (plain_body (command_of command) plain))
    h
