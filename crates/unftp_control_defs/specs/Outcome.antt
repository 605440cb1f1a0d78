-- What a line means: a command, or one refusal. The UTF-8 of the verb is checked first, then that
-- of the SITE subcommand, then the line end, then what the verb takes.
use Rattle.std.specs.Prelude.{if◌then◌else◌, [], Option, Some, None, Err}
use Rattle.std.specs.Str.{is_utf8}
use Rattle.unftp_control_defs.specs.Bytes.{Bytes}
use Rattle.unftp_control_defs.specs.Verbs.{verb_of, parameter_of, upper}
use Rattle.unftp_control_defs.specs.ComputedValue.{value_of}
use Rattle.unftp_control_defs.specs.FtpCommand.{Outcome, InvalidUtf8, InvalidEol, Nothing, command_by, kind, verbs}
use Rattle.unftp_control_defs.specs.Rules.{row_of, subcommand_outcome, taken}
use Rattle.unftp_control_defs.specs.declared.verb.Kind.{Kind}
use Rattle.unftp_control_defs.specs.declared.verb.Kind.TheVariants as kinds
use Rattle.unftp_control_defs.specs.declared.verb.Verb.{Verb}
use Rattle.unftp_control_defs.specs.declared.verb.Verb.TheVariants as verb

-- what a verb that takes a value makes of it; there is none after an invalid line ending
abbrev pub value_outcome : (Bytes → Outcome) → Option Bytes → Outcome
value_outcome answer None = Err InvalidEol
value_outcome answer (Some v) = answer v

-- SITE: a subcommand and its parameter, split as a line is (RFC 959, section 4.1.3)
abbrev pub site_outcome : Bytes → Outcome
site_outcome parameter = if is_utf8 (verb_of parameter)
    then value_outcome (subcommand_outcome (upper (verb_of parameter)))
    (value_of (parameter_of parameter))
    else Err InvalidUtf8

-- what a verb of this kind makes of its parameter bytes; most verbs have no name
abbrev pub parameter_outcome : Kind → Verb → Bytes → Bytes → Outcome
parameter_outcome kinds.Ignored verb name parameter = command_by verb name Nothing
parameter_outcome kinds.Subcommand verb name parameter = site_outcome parameter
parameter_outcome kind verb name parameter =
    value_outcome (taken kind verb name) (value_of parameter)

-- what a word in upper case makes of them; one that is no verb is taken as it comes
abbrev pub word_outcome : Bytes → Option Verb → Bytes → Outcome
word_outcome word (Some verb) parameter = parameter_outcome (kind verb) verb [] parameter
word_outcome word None parameter = parameter_outcome kinds.OptionalText verb.Other word parameter

-- The line's verb has to be UTF-8.
abbrev pub outcome : Bytes → Outcome
outcome line = if is_utf8 (verb_of line)
    then word_outcome (upper (verb_of line)) (row_of (upper (verb_of line)) verbs)
    (parameter_of line)
    else Err InvalidUtf8
