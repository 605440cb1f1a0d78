use Rattle.std.proofs.Common.{◌∙◌}
use Rattle.unftp_control_codecs.proofs.FinderLemmas.{none_known}
use Rattle.unftp_control_codecs.proofs.finder.LineFinder.first_block.Goals as goal

pub returns-then-self-eq0-clause-before : goal.returns-then-self-eq0-clause-before
returns-then-self-eq0-clause-before c =
    none_known (rw (← c.self.view_is) at c.requires) c.if-self-eq0.true
    ∙ rw c.over.ensures.bytes at c.next_block.ensures.before
