use Rattle.std.proofs.Common.{◌≡◌, [], Ok, codes}
use Rattle.unftp_control_defs.specs.FtpCommand.{Outcome, Noop, Quit}
use Rattle.unftp_control_defs.specs.Lines.{IsLine}
use Rattle.unftp_control_defs.proofs.LineLemmas.{Lines-lines_of, line_first}
use Rattle.unftp_control.proofs.laws.examples.both_ends.lines_are_rewritten_so.Goals as goal

apart : ◌≡◌ {A = Outcome} (Ok Noop) (Ok Quit) → ⊥
apart e = cc

two_lines : IsLine (codes "NOOP\nNOOP\n") → ⊥
two_lines line = let all = (line_first (codes "NOOP\nNOOP\n") [] line).0 in cc

pub returns-clause-no_line_of_two : goal.returns-clause-no_line_of_two
returns-clause-no_line_of_two c = λ keeps.
    two_lines (keeps (codes "NOOP\n") (Lines-lines_of (codes "NOOP\n")).each.0).0
