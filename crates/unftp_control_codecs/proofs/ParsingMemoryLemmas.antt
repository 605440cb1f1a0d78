-- A command that is made of a line's parts holds what they do.
use Rattle.std.proofs.Common.{◌<◌, Ok, Err, ap, ◌∙◌, arith}
use Rattle.unftp_control_defs.specs.FtpCommand.{Outcome, Said}
use Rattle.unftp_control_defs.specs.Said.{IsSaid, MeansCommand, outcome_of}
use Rattle.unftp_control_message.specs.PartsMeaning.{Fails, said_len}
use Rattle.unftp_control_message.proofs.HeldLemmas.{held_said}
use Rattle.unftp_control_message.specs.declared.reply.error.parse_error.ParseErrorKind.{ParseErrorKind}
use Rattle.unftp_control_message.specs.declared.reply.error.parse_error.ParseErrorKind.TheVariants as kind
use Rattle.unftp_control_codecs.specs.Memory.{OutcomeMayTakeMemory, FailsWith, IsRefusal}

may_take : (answer : Outcome) (parts : Said) → MeansCommand answer parts → 0 < said_len parts
    → OutcomeMayTakeMemory answer
may_take (Ok command) parts told some =
    omega (arith, held_said command, ap said_len told, some)
may_take (Err refusal) parts told some = absurd told

-- where the parts' command can't be made
pub fails_with : (answer : Outcome) (parts : Said) (error : ParseErrorKind) → IsSaid answer parts
    → Fails (outcome_of parts) (said_len parts) error → FailsWith answer error
fails_with answer parts kind.InvalidCommand says fails = says.0 ∙ fails
fails_with answer parts kind.OutOfMemory says fails = may_take answer parts says.1 fails
fails_with answer parts kind.InvalidUtf8 says fails = absurd fails
fails_with answer parts kind.InvalidEol says fails = absurd fails

pub refused_with : (answer : Outcome) (error : ParseErrorKind) → IsRefusal answer error
    → FailsWith answer error
refused_with answer kind.InvalidCommand refusal = refusal
refused_with answer kind.OutOfMemory refusal = absurd refusal
refused_with answer kind.InvalidUtf8 refusal = refusal
refused_with answer kind.InvalidEol refusal = refusal

pub ruleset commands = (fails_with, refused_with)
