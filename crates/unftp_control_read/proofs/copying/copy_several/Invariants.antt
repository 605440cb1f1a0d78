use Rattle.std.proofs.Common.{length}
use Rattle.unftp_control_read.specs.Reading.{contents}
use Rattle.unftp_control_read.proofs.CopyLemmas.{Copied}
use Rattle.unftp_control_read.proofs.copying.copy_several.Given as goal

abbrev pub invariant-loop-line : goal.invariant-loop-line
invariant-loop-line l = Copied l.digits l.first l.bytes l.rest (contents l.lines)

abbrev pub decreases-loop-line : goal.decreases-loop-line
decreases-loop-line l = length l.rest
