use Rattle.std.proofs.Common.{rules}
use Rattle.unftp_control_message.specs.CommandMeaning.{command_of}
use Rattle.unftp_control_defs.proofs.CommandLineLemmas.{HasLine-outcome}
use Rattle.unftp_control_codecs.proofs.line_parser.parser.parse.Goals as goal

pub returns-clause-answer : goal.returns-clause-answer
returns-clause-answer c = search rules

pub returns-clause-memory : goal.returns-clause-memory
returns-clause-memory c = search rules

pub returns-clause-has_line : goal.returns-clause-has_line
returns-clause-has_line c = λ is_line. HasLine-outcome c.args.line.now
    (command_of c.in_ok-command_in.field-0) is_line c.in_ok-command_in.ensures
