use Rattle.unftp_control_message.specs.CommandMeaning.{command_of}
use Rattle.unftp_control_defs.proofs.CanonicalLineEndLemmas.{IsLine-canonical_line}
use Rattle.unftp_control_defs.proofs.CanonicalLineLemmas.{outcome-canonical_line}
use Rattle.unftp_control_write.proofs.write_command.Goals as goal

pub returns-clause-line : goal.returns-clause-line
returns-clause-line c =
    IsLine-canonical_line (command_of c.args.command.now) c.in-Some.ensures.line.0

pub returns-clause-read_back : goal.returns-clause-read_back
returns-clause-read_back c =
    outcome-canonical_line (command_of c.args.command.now) c.in-Some.ensures.line.0
    c.line_of.ensures.typed
