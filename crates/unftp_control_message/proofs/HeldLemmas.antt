-- How many bytes a command holds.
use Rattle.std.proofs.Common.{◌≡◌, ◌<◌, ◌≤◌, ℕ, [], ◌∷◌, Some, None, Ok, ap, arith}
use Rattle.std.specs.Char.{to_ascii_uppercase}
use Rattle.std.proofs.lemmas.List.{length-map}
use Rattle.unftp_control_defs.specs.FtpCommand.{Outcome, FtpCommand, User, Pass, Acct, List, Site, Other, Said, said}
use Rattle.unftp_control_defs.specs.Verbs.{upper}
use Rattle.unftp_control_message.specs.PartsMeaning.{Fails, held_len, said_len}
use Rattle.unftp_control_message.specs.declared.reply.error.parse_error.ParseErrorKind.{ParseErrorKind}
use Rattle.unftp_control_message.specs.declared.reply.error.parse_error.ParseErrorKind.TheVariants as kind

-- its parts hold no more
pub held_said : (command : FtpCommand) → said_len (said command) ≤ held_len command
held_said (User []) = omega arith
held_said (User (b ∷ name)) = omega arith
held_said (Pass []) = omega arith
held_said (Pass (b ∷ password)) = omega arith
held_said (Acct []) = omega arith
held_said (Acct (b ∷ account)) = omega arith
held_said (List options None) = omega arith
held_said (List options (Some path)) = omega arith
held_said (Site name []) = omega arith
held_said (Site name (b ∷ arguments)) = omega arith
held_said (Other name []) = omega arith
held_said (Other name (b ∷ arguments)) = omega arith
held_said command = omega arith

-- where parts that give a command fail, memory ran out
pub ran_out : (answer : Outcome) (command : FtpCommand) (len : ℕ) (error : ParseErrorKind)
    → answer ≡ Ok command → Fails answer len error → 0 < len
ran_out answer command len kind.InvalidCommand is fails = absurd (cc)
ran_out answer command len kind.OutOfMemory is fails = fails
ran_out answer command len kind.InvalidUtf8 is fails = absurd fails
ran_out answer command len kind.InvalidEol is fails = absurd fails

-- so that it holds bytes where they do
pub holds_some : (command : FtpCommand) (parts : Said) → parts ≡ said command
    → 0 < said_len (record parts { name = upper parts.name }) → 0 < held_len command
holds_some command parts is some = omega (
  arith,
  held_said command,
  ap said_len is,
  length-map parts.name to_ascii_uppercase,
  some,
)
