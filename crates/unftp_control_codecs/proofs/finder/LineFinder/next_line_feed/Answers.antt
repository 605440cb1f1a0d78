use Rattle.std.proofs.Common.{◌∙◌, ap, arith, refl}
use Rattle.unftp_control_codecs.specs.Finder.{Finder}
use Rattle.unftp_control_codecs.proofs.BlockLemmas.{first_of}
use Rattle.unftp_control_codecs.proofs.FinderLemmas.{first_found, goes_on-none, goes_on-some}
use Rattle.unftp_control_codecs.proofs.finder.LineFinder.next_line_feed.Goals as goal

pub returns-then-block-eq0-clause-goes_on : goal.returns-then-block-eq0-clause-goes_on
returns-then-block-eq0-clause-goes_on c =
    let is = c.first_block-block.ensures in
    let end = is.at_end c.if-block-eq0.true in
    let none = ap (λ (finder : Finder). finder.line_feeds) (c.self.view_is ∙ is.same) ∙ end.2 in
    goes_on-none is.block is.before _ _ (rw (← c.self.view_is) at is.never_fewer)
    (rw (← c.self.view_is) at is.once) end.0 end.1 refl none

pub overflow_sub-self : goal.overflow_sub-self
overflow_sub-self c = let first = first_of c.first_block-block.ensures.block c.if-block-eq0.false in
    omega (arith, first.0)

pub overflow_shr-self : goal.overflow_shr-self
overflow_shr-self c = let block = c.first_block-block.ensures.block in
    let first = first_of block c.if-block-eq0.false in
    omega (arith, first.0, block.few)

pub returns-clause-found : goal.returns-clause-found
returns-clause-found c = let is = c.first_block-block.ensures in
    first_found is.block is.before c.if-block-eq0.false

pub returns-clause-goes_on : goal.returns-clause-goes_on
returns-clause-goes_on c =
    let is = c.first_block-block.ensures in
    goes_on-some is.block is.before _ _ (rw (← c.self.view_is) at is.never_fewer)
    (rw (← c.self.view_is) at is.once) c.if-block-eq0.false refl refl
