use Rattle.std.proofs.Common.{refl, sym}
use Rattle.unftp_control_serve.specs.declared.decoder.First.TheVariants as first
use Rattle.unftp_control_serve.proofs.DecoderLemmas.{few_ahead, kind-is}
use Rattle.unftp_control_serve.proofs.decoder.EventDecoder.found_kind.Goals as goal

pub returns-in-Line-clause-kind : goal.returns-in-Line-clause-kind
returns-in-Line-clause-kind c = let d = c.self.inside in
    rw (← c.self.view_is) (sym (kind-is d.finder d.skipped _ (first.Line c.in-Line.field-0)
    (rw c.in-Line.is at c.self.invariant.first_is) refl))

pub returns-in-TooLong-clause-kind : goal.returns-in-TooLong-clause-kind
returns-in-TooLong-clause-kind c = let d = c.self.inside in
    rw (← c.self.view_is) (sym (kind-is d.finder d.skipped _ first.TooLong
    (rw c.in-TooLong.is at c.self.invariant.first_is) refl))

pub returns-in-Line-clause-ahead : goal.returns-in-Line-clause-ahead
returns-in-Line-clause-ahead c = let d = c.self.inside in
    rw (← c.self.view_is) (few_ahead d.finder d.skipped _ d.first c.self.invariant.compared_so_far
    c.self.invariant.first_is (rw c.in-Line.is refl))

pub returns-in-TooLong-clause-ahead : goal.returns-in-TooLong-clause-ahead
returns-in-TooLong-clause-ahead c = let d = c.self.inside in
    rw (← c.self.view_is) (few_ahead d.finder d.skipped _ d.first c.self.invariant.compared_so_far
    c.self.invariant.first_is (rw c.in-TooLong.is refl))
