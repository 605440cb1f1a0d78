-- A log line depends on nothing but what may be known of its line.
use Rattle.std.proofs.Common.{◌≡◌, ◌==◌, ℕ, ◌||◌, Bool, true, false, cond, Option, Some, None, is_some, Ok, Err, bytes_eq, codes, length, [], ◌∷◌, refl, ap, sym, subst, ◌∙◌}
use Rattle.std.specs.List.{list_any}
use Rattle.std.specs.Option.{unwrap_or}
use Rattle.std.specs.Prelude.{option_and_then}
use Rattle.std.specs.Str.{is_utf8}
use Rattle.std.specs.Str.Lossy.{utf8_lossy}
use Rattle.unftp_control_defs.specs.Bytes.{Bytes}
use Rattle.unftp_control_defs.specs.ComputedValue.{value_of}
use Rattle.unftp_control_defs.specs.Events.{Fault, Command, Refused, event_for, event_of, exceeds, line_too_long}
use Rattle.unftp_control_defs.specs.FtpCommand.{Outcome, FtpCommand, Acct, InvalidCommand, InvalidUtf8, Md5, Nothing, Other, Pass, Site, command_by, kind, said, unless_empty, verbs}
use Rattle.unftp_control_defs.specs.Outcome.{outcome, parameter_outcome, site_outcome, value_outcome, word_outcome}
use Rattle.unftp_control_defs.specs.Rules.{row_of, taken}
use Rattle.unftp_control_defs.specs.declared.verb.Kind.{Kind}
use Rattle.unftp_control_defs.specs.declared.verb.Kind.TheVariants as kinds
use Rattle.unftp_control_defs.specs.declared.verb.Verb.{Verb as Ruled}
use Rattle.unftp_control_defs.specs.declared.verb.Verb.TheVariants as verbs_of
use Rattle.unftp_control_defs.specs.Verbs.{parameter_of, upper, verb_of}
use lib.Pointwise.{bytes_decides}
use Rattle.unftp_control_log.specs.Known.{Known, known, known_of, listed_subcommand, shows_parameter, subcommand_by}
use Rattle.unftp_control_log.specs.LogLine.{RefusedLine, Subcommand, Verb, Visible, asterisks, further_verbs, is_listed, listed_verb, log_line, logged, parameter_by, reason, shown_parameter, shown_value, site_words, unless_too_long, visible, visible_other, visible_said, visible_site, visible_text}
use Rattle.unftp_control_log.proofs.PartsLemmas.{upper-upper}

-- ---- what is shown, by what may be known: the verb and the subcommand, where they are listed, and
-- the value that is shown

-- what a verb of this kind makes of a value, if it takes one
abbrev made_by : Kind → Ruled → Bytes → Outcome
made_by kinds.Ignored verb v = command_by verb [] Nothing
made_by kind verb v = taken kind verb [] v

abbrev shown_outcome : Outcome → Option Bytes → Visible
shown_outcome (Ok command) value = visible_said (said command) value
shown_outcome (Err refusal) value = Verb asterisks None

abbrev by_subcommand : Option Bytes → Option Bytes → Visible
by_subcommand None value = Subcommand asterisks None
by_subcommand (Some name) value = visible_site (row_of name site_words) name value

abbrev by_row : Option Ruled → Bytes → Option Bytes → Option Bytes → Visible
by_row None word subcommand value = Verb word (Some asterisks)
by_row (Some verbs_of.Site) word subcommand value = by_subcommand subcommand value
by_row (Some verb) word subcommand value =
    shown_outcome (made_by (kind verb) verb (unwrap_or value [])) value

abbrev by_words : Option Bytes → Option Bytes → Option Bytes → Visible
by_words None subcommand value = Verb asterisks None
by_words (Some word) subcommand value = by_row (row_of word verbs) word subcommand value

-- ---- of a command

-- an answer that depends on the UTF-8 of a word, and on a value
after_utf8 : (utf8 : Bool) (answer : Outcome) (command : FtpCommand)
    → cond utf8 answer (Err InvalidUtf8) ≡ Ok command → answer ≡ Ok command
after_utf8 true answer command is = is
after_utf8 false answer command is = absurd (cc)

abbrev value_in : Bytes → Option Bytes
value_in parameter = option_and_then unless_empty (value_of parameter)

unless_empty-is : (v : Bytes) → unwrap_or (unless_empty v) [] ≡ v
unless_empty-is [] = refl
unless_empty-is (b ∷ v) = refl

-- the value is all that a command has of its parameter
made_of_value : (answer : Bytes → Outcome) (value : Option Bytes) (command : FtpCommand)
    → value_outcome answer value ≡ Ok command
    → answer (unwrap_or (option_and_then unless_empty value) []) ≡ Ok command
made_of_value answer None command is = absurd (cc)
made_of_value answer (Some v) command is = ap answer (unless_empty-is v) ∙ is

-- every command that this makes of a value is shown so, whatever value is shown
abbrev Shows : (Bytes → Outcome) → (Option Bytes → Visible) → Type 0
Shows answer shown = (v : Bytes) (command : FtpCommand) → answer v ≡ Ok command
    → (value : Option Bytes) → visible_said (said command) value ≡ shown value

made : (command other : FtpCommand) (value : Option Bytes) (shown : Visible)
    → visible_said (said command) value ≡ shown
    → ◌≡◌ {A = Outcome} (Ok command) (Ok other) → visible_said (said other) value ≡ shown
made command other value shown so is = let same : command ≡ other = cc in
    subst (λ c. visible_said (said c) value ≡ shown) same so

shows_password :
    Shows (taken kinds.Raw verbs_of.Pass []) (λ _. Verb (codes "PASS") (Some asterisks))
shows_password [] command is value = made (Pass []) command value _ refl is
shows_password (b ∷ v) command is value = made (Pass (b ∷ v)) command value _ refl is

shows_account :
    Shows (taken kinds.Raw verbs_of.Acct []) (λ _. Verb (codes "ACCT") (Some asterisks))
shows_account [] command is value = made (Acct []) command value _ refl is
shows_account (b ∷ v) command is value = made (Acct (b ∷ v)) command value _ refl is

shows_other : (name : Bytes) → Shows (taken kinds.OptionalText verbs_of.Other name)
    (λ _. visible_other (is_listed name) (upper name))
shows_other name [] command is value = made (Other name []) command value _ refl is
shows_other name (b ∷ v) command is value = made (Other name (utf8_lossy (b ∷ v))) command value _
    (named (utf8_lossy (b ∷ v))) is
  where
    named : (arguments : Bytes) → visible_said (said (Other name arguments)) value
        ≡ visible_other (is_listed name) (upper name)
    named arguments = refl

shows_site : (name : Bytes) → Shows (taken kinds.OptionalText verbs_of.Site name)
    (λ value. visible_site (row_of (upper name) site_words) (upper name) value)
shows_site name [] command is value = made (Site name []) command value _ refl is
shows_site name (b ∷ v) command is value = made (Site name (utf8_lossy (b ∷ v))) command value _
    (named (utf8_lossy (b ∷ v))) is
  where
    named : (arguments : Bytes) → visible_said (said (Site name arguments)) value
        ≡ visible_site (row_of (upper name) site_words) (upper name) value
    named [] = refl
    named (b ∷ arguments) = refl

shows_digest : Shows (taken kinds.Text verbs_of.Md5 []) (λ value. Subcommand (codes "MD5") value)
shows_digest v command is value = by_length (length v == 0) is
  where
    by_length : (empty : Bool)
        → cond {A = Outcome} empty (Err InvalidCommand) (Ok (Md5 (utf8_lossy v))) ≡ Ok command
        → visible_said (said command) value ≡ Subcommand (codes "MD5") value
    by_length true is = absurd (cc)
    by_length false is = made (Md5 (utf8_lossy v)) command value _ refl is

shown_as : (answer : Bytes → Outcome) (shown : Option Bytes → Visible) → Shows answer shown
    → (sent : Option Bytes) (command : FtpCommand) → value_outcome answer sent ≡ Ok command
    → (value : Option Bytes) → visible_said (said command) value ≡ shown value
shown_as answer shown each None command is value = absurd (cc)
shown_as answer shown each (Some v) command is value = each v command is value

-- a verb of this kind, whose value is shown
shown_kind : (kind : Kind) (verb : Ruled) (parameter : Bytes) (command : FtpCommand)
    → parameter_outcome kind verb [] parameter ≡ Ok command
    → (site : kind ≡ kinds.Subcommand → ⊥)
    → made_by kind verb (unwrap_or (value_in parameter) []) ≡ Ok command
shown_kind kinds.Ignored verb parameter command is site = is
shown_kind kinds.Subcommand verb parameter command is site = absurd (site refl)
shown_kind kind verb parameter command is site =
    made_of_value (taken kind verb []) (value_of parameter) command is

-- SITE
module _ (parameter : Bytes) (command : FtpCommand) (value : Option Bytes) where
  abbrev name : Bytes
  name = upper (verb_of parameter)

  by_name : (md5 : Bool) → bytes_eq name (codes "MD5") ≡ md5
      → value_outcome (cond md5 (taken kinds.Text verbs_of.Md5 [])
      (taken kinds.OptionalText verbs_of.Site name)) (value_of (parameter_of parameter))
      ≡ Ok command
      → visible_said (said command) value ≡ visible_site (row_of name site_words) name value
  by_name true same is =
      shown_as (taken kinds.Text verbs_of.Md5 []) _ shows_digest
      (value_of (parameter_of parameter)) command is value
      ∙ sym (ap (λ n. visible_site (row_of n site_words) n value)
      ((bytes_decides name (codes "MD5")).0 same))
  by_name false same is =
      shown_as (taken kinds.OptionalText verbs_of.Site name) _ (shows_site name)
      (value_of (parameter_of parameter)) command is value
      ∙ ap (λ n. visible_site (row_of n site_words) n value) (upper-upper (verb_of parameter))

  listed_site : (row : Option Bool) → row_of name site_words ≡ row
      → visible_site (row_of name site_words) name value
      ≡ by_subcommand (cond (is_some (row_of name site_words)) (Some name) None) value
  listed_site None is = ap (λ row. visible_site row name value) is
      ∙ sym (ap (λ row. by_subcommand (cond (is_some row) (Some name) None) value) is)
  listed_site (Some shows) is =
      sym (ap (λ row. by_subcommand (cond (is_some row) (Some name) None) value) is)

  site_shown : site_outcome parameter ≡ Ok command → visible_said (said command) value
      ≡ by_subcommand (subcommand_by (Some verbs_of.Site) parameter) value
  site_shown is = by_name (bytes_eq name (codes "MD5")) refl
      (after_utf8 (is_utf8 (verb_of parameter)) _ command is)
      ∙ listed_site (row_of name site_words) refl

-- a verb with a rule of its own
ruled_shown : (verb : Ruled) (word parameter : Bytes) (command : FtpCommand)
    → parameter_outcome (kind verb) verb [] parameter ≡ Ok command
    → visible_said (said command)
    (option_and_then unless_empty (option_and_then value_of (parameter_by (Some verb) parameter)))
    ≡ by_row (Some verb) word (subcommand_by (Some verb) parameter)
    (option_and_then unless_empty (option_and_then value_of (parameter_by (Some verb) parameter)))
ruled_shown verbs_of.Site word parameter command is = site_shown parameter command _ is
ruled_shown verbs_of.Pass word parameter command is =
    shown_as (taken kinds.Raw verbs_of.Pass []) _ shows_password (value_of parameter) command is None
ruled_shown verbs_of.Acct word parameter command is =
    shown_as (taken kinds.Raw verbs_of.Acct []) _ shows_account (value_of parameter) command is None
ruled_shown verbs_of.Syst word parameter command is =
    sym (ap (λ answer. shown_outcome answer None) is)
ruled_shown verbs_of.Help word parameter command is =
    sym (ap (λ answer. shown_outcome answer None) is)
ruled_shown verb word parameter command is = sym (ap (λ answer. shown_outcome answer
    (value_in parameter)) (shown_kind (kind verb) verb parameter command is (λ same. cc)))

module _ (line : Bytes) (command : FtpCommand) (is : outcome line ≡ Ok command) where
  abbrev word : Bytes
  word = upper (verb_of line)

  answered : word_outcome word (row_of word verbs) (parameter_of line) ≡ Ok command
  answered = after_utf8 (is_utf8 (verb_of line)) _ command is

  -- what is shown where the verb is listed, and where it is not
  abbrev ShownIf : Bool → Type 0
  ShownIf listed = visible_said (said command) (shown_value line)
      ≡ by_words (cond listed (Some word) None) (listed_subcommand line) (shown_value line)

  by_listed : row_of word verbs ≡ None → (listed : Bool) → is_listed (verb_of line) ≡ listed
      → visible_other (is_listed (verb_of line)) word
      ≡ by_words (cond listed (Some word) None) (listed_subcommand line) (shown_value line)
  by_listed none true same = ap (λ b. visible_other b word) same
      ∙ sym (ap (λ row. by_row row word (listed_subcommand line) (shown_value line)) none)
  by_listed none false same = ap (λ b. visible_other b word) same

  other : row_of word verbs ≡ None → (listed : Bool) → is_listed (verb_of line) ≡ listed
      → ShownIf listed
  other none listed same =
      shown_as (taken kinds.OptionalText verbs_of.Other word) _ (shows_other word)
      (value_of (parameter_of line)) command
      (ap (λ row. word_outcome word row (parameter_of line)) (sym none) ∙ answered)
      (shown_value line)
      ∙ ap (λ u. visible_other (is_some (row_of u verbs)
      || list_any (bytes_eq u) further_verbs) u) (upper-upper (verb_of line))
      ∙ by_listed none listed same

  ruled : (verb : Ruled) → row_of word verbs ≡ Some verb → ShownIf true
  ruled verb same = subst (λ row. visible_said (said command) (option_and_then unless_empty
      (option_and_then value_of (parameter_by row (parameter_of line))))
      ≡ by_row row word (subcommand_by row (parameter_of line))
      (option_and_then unless_empty
      (option_and_then value_of (parameter_by row (parameter_of line))))) (sym same)
      (ruled_shown verb word (parameter_of line) command
      (ap (λ row. word_outcome word row (parameter_of line)) (sym same) ∙ answered))

  by_case : (row : Option Ruled) → row_of word verbs ≡ row → (listed : Bool)
      → is_listed (verb_of line) ≡ listed → ShownIf listed
  by_case None none listed same = other none listed same
  by_case (Some verb) row true same = ruled verb row
  by_case (Some verb) row false same =
      let listed : is_listed (verb_of line) ≡ true =
      ap (λ row. is_some row || list_any (bytes_eq word) further_verbs) row in absurd (cc)

  command_shown : visible_said (said command) (shown_value line)
      ≡ by_words (listed_verb line) (listed_subcommand line) (shown_value line)
  command_shown = by_case (row_of word verbs) refl (is_listed (verb_of line)) refl

-- ---- of a line

abbrev shown_by : Option Fault → Option Bytes → Option Bytes → Option Bytes → Visible
shown_by (Some fault) word subcommand value = RefusedLine word (reason fault.source fault.kind)
shown_by None word subcommand value = by_words word subcommand value

abbrev shown_of : Known → Visible
shown_of known = shown_by known.fault known.verb known.subcommand known.value

visible-known : (limit : Option ℕ) (line : Bytes)
    → visible (event_for limit line) (unless_too_long limit line) ≡ shown_of (known limit line)
visible-known limit line = by_test (exceeds limit (length line)) (outcome line) refl
  where
    by_test : (long : Bool) (answer : Outcome) → outcome line ≡ answer
        → visible (cond long (Refused line_too_long) (event_of answer)) (cond long [] line)
        ≡ shown_of (known_of (cond long (Refused line_too_long) (event_of answer))
        (cond long [] line))
    by_test true answer is = refl
    by_test false (Ok command) is = command_shown line command is
    by_test false (Err refusal) is = refl

-- two lines of which the same may be known have one log line
pub logged_alike : (limit : Option ℕ) (line other : Bytes) → known limit line ≡ known limit other
    → logged limit line ≡ logged limit other
logged_alike limit line other same = ap visible_text
    (visible-known limit line ∙ ap shown_of same ∙ sym (visible-known limit other))

-- a line whose parameter is hidden shows no value, whatever the command
no_value : (line : Bytes) → shows_parameter line ≡ false → shown_value line ≡ None
no_value line hides = by_parameter (shown_parameter line) hides
  where
    by_parameter : (parameter : Option Bytes) → is_some parameter ≡ false
        → option_and_then unless_empty (option_and_then value_of parameter) ≡ None
    by_parameter None is = refl
    by_parameter (Some parameter) is = absurd (cc)

pub parameters_hidden : (command : FtpCommand) (line other : Bytes) → shows_parameter line ≡ false
    → shows_parameter other ≡ false
    → log_line (Command command) line ≡ log_line (Command command) other
parameters_hidden command line other hides hides' =
    ap (λ value. visible_text (visible_said (said command) value))
    (no_value line hides ∙ sym (no_value other hides'))
