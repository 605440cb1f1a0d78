-- What a verb makes of a value that it doesn't take, and of what its command says.
use Rattle.std.proofs.Common.{◌≡◌, ℕ, Bool, true, false, [], ◌∷◌, Some, None, Ok, Err, refl}
use Rattle.unftp_control_defs.specs.Bytes.{Bytes}
use Rattle.unftp_control_defs.specs.FtpCommand.{FtpCommand, User, Pass, Acct, Stat, List, Nlst, Mlst, Mlsd, Site, Other, Said, InvalidCommand, Chosen, Nothing, Number, Raw, Text, Value, command_by, kind, said}
use Rattle.unftp_control_defs.specs.Said.{outcome_of}
use Rattle.unftp_control_defs.specs.Verbs.{upper}
use Rattle.unftp_control_message.specs.PartsMeaning.{IsItsParts}
use Rattle.unftp_control_defs.specs.declared.parameters.Choice.{Choice}
use Rattle.unftp_control_defs.specs.declared.verb.Kind.{Kind}
use Rattle.unftp_control_defs.specs.declared.verb.Kind.TheVariants as kinds
use Rattle.unftp_control_defs.specs.declared.verb.Verb.{Verb}
use Rattle.unftp_control_defs.specs.declared.verb.Verb.TheVariants as verb

-- what a verb of this kind may take
abbrev pub takes : Kind → Value → Bool
takes kinds.Ignored Nothing = true
takes kinds.Alone Nothing = true
takes kinds.Raw Nothing = true
takes kinds.Raw (Raw bytes) = true
takes kinds.Text (Text text) = true
takes kinds.OptionalText Nothing = true
takes kinds.OptionalText (Text text) = true
takes kinds.Listing Nothing = true
takes kinds.Listing (Text text) = true
takes kinds.Subcommand Nothing = true
takes kinds.Subcommand (Text text) = true
takes kinds.Typed value = true
takes kind value = false

abbrev Refuses : Value → Verb → Bytes → Type 0
Refuses value verb name = takes (kind verb) value ≡ false
    → command_by verb name value ≡ Err InvalidCommand

refused_nothing : (verb : Verb) (name : Bytes) → Refuses Nothing verb name
refused_nothing verb.User name none = cc
refused_nothing verb name none = cc

refused_raw : (bytes : Bytes) (verb : Verb) (name : Bytes) → Refuses (Raw bytes) verb name
refused_raw bytes verb.User name none = cc
refused_raw bytes verb name none = cc

refused_text : (text : Bytes) (verb : Verb) (name : Bytes) → Refuses (Text text) verb name
refused_text text verb.User name none = cc
refused_text text verb name none = cc

refused_choice : (choice : Choice) (verb : Verb) (name : Bytes)
    → Refuses (Chosen choice) verb name
refused_choice choice verb.User name none = cc
refused_choice choice verb name none = cc

refused_number : (number : ℕ) (verb : Verb) (name : Bytes) → Refuses (Number number) verb name
refused_number number verb.User name none = cc
refused_number number verb name none = cc

pub refused : (verb : Verb) (name : Bytes) (value : Value) → takes (kind verb) value ≡ false
    → command_by verb name value ≡ Err InvalidCommand
refused verb name Nothing = refused_nothing verb name
refused verb name (Raw bytes) = refused_raw bytes verb name
refused verb name (Text text) = refused_text text verb name
refused verb name (Chosen choice) = refused_choice choice verb name
refused verb name (Number number) = refused_number number verb name

-- what a command says makes it again
pub its_parts : (command : FtpCommand) (parts : Said) → IsItsParts command → parts ≡ said command
    → outcome_of (record parts { name = upper parts.name }) ≡ Ok command
its_parts (User []) parts is e = rw e refl
its_parts (User (b ∷ v)) parts is e = rw e refl
its_parts (Pass []) parts is e = rw e refl
its_parts (Pass (b ∷ v)) parts is e = rw e refl
its_parts (Acct []) parts is e = rw e refl
its_parts (Acct (b ∷ v)) parts is e = rw e refl
its_parts (Stat None) parts is e = rw e refl
its_parts (Stat (Some path)) parts is e = rw e refl
its_parts (Nlst None) parts is e = rw e refl
its_parts (Nlst (Some path)) parts is e = rw e refl
its_parts (Mlst None) parts is e = rw e refl
its_parts (Mlst (Some path)) parts is e = rw e refl
its_parts (Mlsd None) parts is e = rw e refl
its_parts (Mlsd (Some path)) parts is e = rw e refl
its_parts (List options path) parts is e = absurd is
its_parts (Site name arguments) parts is e = absurd is
its_parts (Other name arguments) parts is e = absurd is
its_parts command parts is e = rw e refl

pub ruleset taking = (refused)
