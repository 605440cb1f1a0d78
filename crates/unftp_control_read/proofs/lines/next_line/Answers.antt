use Rattle.std.proofs.Common.{subst, sym}
use Rattle.unftp_control_defs.specs.ReplyReader.{LacksCrlf}
use Rattle.unftp_control_read.proofs.LineLemmas.{lacks_crlf}
use Rattle.unftp_control_read.proofs.lines.next_line.Goals as goal

pub returns-clause-is_line : goal.returns-clause-is_line
returns-clause-is_line c lacks = subst LacksCrlf (sym c.split_at.ensures.front)
    (lacks_crlf c.in_ok-at.at c.args.bytes.now (c.in_ok-at.ensures.first lacks))
