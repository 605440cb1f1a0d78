-- Whether a line keeps its parameter shows in the verb of its command.
use Rattle.std.proofs.Common.{◌≡◌, ◌≢◌, Bool, true, false, cond, ◌==◌, nat_lt, List, [], ◌∷◌, length, Option, Some, None, Ok, Err, bytes_eq, refl, ap, subst, codes}
use Rattle.std.specs.Bool.{⊤}
use Rattle.std.specs.List.{AllByRecursion}
use Rattle.std.specs.Str.{is_utf8}
use Rattle.std.specs.Str.Lossy.{utf8_lossy}
use Rattle.unftp_control_defs.specs.Bytes.{Bytes}
use Rattle.unftp_control_defs.specs.Verbs.{verb_of, parameter_of, upper}
use Rattle.unftp_control_defs.specs.Paths.{path_of}
use Rattle.unftp_control_defs.specs.ComputedValue.{value_of}
use Rattle.unftp_control_defs.specs.FtpCommand.{Outcome, FtpCommand, Refusal, InvalidCommand, InvalidUtf8, Rest, Nothing, Text, Said, Value, command_by, kind, maybe_text, said, unless_empty, verbs}
use Rattle.unftp_control_defs.specs.Said.{KindSaysBack, SaysBack, MeansCommand}
use Rattle.unftp_control_defs.specs.Rules.{buffer_sizes, chosen, mechanisms, modes, optional_text, options, protections, row_of, structures, subcommand_outcome, taken, typed_outcome}
use Rattle.unftp_control_defs.specs.Outcome.{outcome, parameter_outcome, value_outcome, word_outcome}
use Rattle.unftp_control_defs.specs.Forwarded.{keeps, keeps_parameter, kind_keeps}
use Rattle.unftp_control_defs.specs.declared.verb.Kind.{Kind}
use Rattle.unftp_control_defs.specs.declared.verb.Kind.TheVariants as kinds
use Rattle.unftp_control_defs.specs.declared.verb.Verb.{Verb}
use Rattle.unftp_control_defs.specs.declared.verb.Verb.TheVariants as verb
use Rattle.unftp_control_defs.proofs.LossyLemmas.{kept-utf8_lossy}
use Rattle.unftp_control_defs.proofs.SaidLemmas.{fits, other_fits, site_fits}

-- what a line of the outcome's command does
abbrev KeepsAs : Bool → Outcome → Type 0
KeepsAs keeps (Ok command) = kind_keeps (kind (said command).verb) ≡ keeps
KeepsAs keeps (Err refusal) = ⊤

passed_keeps : (keeps test : Bool) (answer : Outcome) (refusal : Refusal) → KeepsAs keeps answer
    → KeepsAs keeps (cond test answer (Err refusal))
passed_keeps keeps true answer refusal h = h
passed_keeps keeps false answer refusal h = tt

not_refused_keeps : (keeps test : Bool) (answer : Outcome) (refusal : Refusal)
    → KeepsAs keeps answer → KeepsAs keeps (cond test (Err refusal) answer)
not_refused_keeps keeps true answer refusal h = tt
not_refused_keeps keeps false answer refusal h = h

tells_keeps : (answer : Outcome) (parts : Said) → MeansCommand answer parts
    → KeepsAs (kind_keeps (kind parts.verb)) answer
tells_keeps (Ok command) parts tells = ap (λ said. kind_keeps (kind said.verb)) tells
tells_keeps (Err refusal) parts tells = tt

-- the verbs with a value of their own type
chosen_keeps : (rows : List (Bytes × FtpCommand))
    → AllByRecursion (λ row. kind_keeps (kind (said row.1).verb) ≡ false) rows → (v : Bytes)
    → KeepsAs false (chosen rows v)
chosen_keeps [] each v = tt
chosen_keeps (row ∷ rows) each v = by_test (bytes_eq row.0 v) (chosen_keeps rows each.1 v)
  where
    by_test : (test : Bool) → KeepsAs false (chosen rows v)
        → KeepsAs false (cond test (Ok row.1) (chosen rows v))
    by_test true more = each.0
    by_test false more = more

typed_keeps : (verb : Verb) (v : Bytes) → KeepsAs false (typed_outcome verb v)
typed_keeps verb.Stru v = chosen_keeps structures (refl, (refl, (refl, tt))) v
typed_keeps verb.Mode v = chosen_keeps modes (refl, (refl, (refl, tt))) v
typed_keeps verb.Prot v = chosen_keeps protections (refl, (refl, (refl, (refl, tt)))) v
typed_keeps verb.Opts v = chosen_keeps options (refl, (refl, (refl, (refl, tt)))) v
typed_keeps verb.Pbsz v = chosen_keeps buffer_sizes (refl, tt) v
typed_keeps verb.Auth v =
    not_refused_keeps false (nat_lt 3 (length v)) _ InvalidCommand
    (passed_keeps false (is_utf8 v) _ InvalidUtf8
    (chosen_keeps mechanisms (refl, (refl, tt)) (upper v)))
typed_keeps verb.Rest v = passed_keeps false _ (Ok (Rest _)) InvalidCommand refl
typed_keeps verb v = tt

-- the verbs of the other kinds
some_text : (text : Bytes) → text ≢ [] → maybe_text (unless_empty text) ≡ Text text
some_text [] some = absurd (some refl)
some_text (b ∷ text) some = refl

module _ (verb : Verb) (name : Bytes) where
  optional_says : ((text : Bytes) → SaysBack verb name (maybe_text (unless_empty text)))
      → (v : Bytes) → SaysBack verb name (optional_text v)
  optional_says says [] = says []
  optional_says says (b ∷ v) =
      let text : Bytes = utf8_lossy (b ∷ v) in
      subst (SaysBack verb name) (some_text text (kept-utf8_lossy (b ∷ v) (λ e. cc))) (says text)

  says_keeps : (keeps : Bool) (value : Value) → kind_keeps (kind verb) ≡ keeps
      → SaysBack verb name value → KeepsAs keeps (command_by verb name value)
  says_keeps keeps value same says =
      subst (λ keeps. KeepsAs keeps (command_by verb name value)) same
      (tells_keeps (command_by verb name value) _ says.1)

  taken_keeps : (of : Kind) → kind_keeps (kind verb) ≡ kind_keeps of → KindSaysBack of verb name
      → (v : Bytes) → KeepsAs (kind_keeps of) (taken of verb name v)
  taken_keeps kinds.Alone same says v =
      passed_keeps false (length v == 0) _ InvalidCommand (says_keeps false _ same says)
  taken_keeps kinds.Raw same says v = says_keeps true _ same (says v)
  taken_keeps kinds.Text same says v =
      not_refused_keeps true (length v == 0) _ InvalidCommand
      (says_keeps true _ same (says (utf8_lossy v)))
  taken_keeps kinds.OptionalText same says v = says_keeps true _ same (optional_says says v)
  taken_keeps kinds.Listing same says v = says_keeps true _ same (says (path_of (utf8_lossy v)))
  taken_keeps kinds.Typed same says v = typed_keeps verb v
  taken_keeps kinds.Ignored same says v = tt
  taken_keeps kinds.Subcommand same says v = tt

value_keeps : (keeps : Bool) (answer : Bytes → Outcome) → ((v : Bytes) → KeepsAs keeps (answer v))
    → (value : Option Bytes) → KeepsAs keeps (value_outcome answer value)
value_keeps keeps answer each None = tt
value_keeps keeps answer each (Some v) = each v

subcommand_keeps : (name v : Bytes) → KeepsAs true (subcommand_outcome name v)
subcommand_keeps name v = by_test (bytes_eq name (codes "MD5"))
  where
    by_test : (test : Bool) → KeepsAs true
        ((cond test (taken kinds.Text verb.Md5 []) (taken kinds.OptionalText verb.Site name)) v)
    by_test true = taken_keeps verb.Md5 [] kinds.Text refl (fits verb.Md5) v
    by_test false = taken_keeps verb.Site name kinds.OptionalText refl (site_fits name) v

parameter_keeps : (of : Kind) (verb : Verb) (name : Bytes) → kind_keeps (kind verb) ≡ kind_keeps of
    → KindSaysBack of verb name → (parameter : Bytes)
    → KeepsAs (kind_keeps of) (parameter_outcome of verb name parameter)
parameter_keeps kinds.Ignored verb name same says parameter =
    says_keeps verb name true Nothing same says
parameter_keeps kinds.Subcommand verb name same says parameter =
    passed_keeps true (is_utf8 (verb_of parameter)) _ InvalidUtf8
    (value_keeps true _ (subcommand_keeps (upper (verb_of parameter)))
    (value_of (parameter_of parameter)))
parameter_keeps of verb name same says parameter =
    value_keeps (kind_keeps of) _ (taken_keeps verb name of same says) (value_of parameter)

word_keeps : (word : Bytes) (row : Option Verb) (parameter : Bytes)
    → KeepsAs (keeps row) (word_outcome word row parameter)
word_keeps word (Some verb) parameter =
    parameter_keeps (kind verb) verb [] refl (fits verb) parameter
word_keeps word None parameter =
    parameter_keeps kinds.OptionalText verb.Other word refl (other_fits word) parameter

-- A line keeps its parameter exactly where its command is of such a kind.
pub keeps_parameter-command : (line : Bytes) (command : FtpCommand) → outcome line ≡ Ok command
    → kind_keeps (kind (said command).verb) ≡ keeps_parameter (upper (verb_of line))
keeps_parameter-command line command means =
    subst (KeepsAs (keeps_parameter (upper (verb_of line)))) means
    (passed_keeps (keeps_parameter (upper (verb_of line))) (is_utf8 (verb_of line)) _ InvalidUtf8
    (word_keeps (upper (verb_of line)) (row_of (upper (verb_of line)) verbs) (parameter_of line)))
