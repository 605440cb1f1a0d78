use Rattle.std.proofs.Common.{refl}
use Rattle.unftp_control_serve.specs.declared.decoder.First.TheVariants as first
use Rattle.unftp_control_serve.proofs.DecoderLemmas.{found_is_line}
use Rattle.unftp_control_serve.proofs.decoder.EventDecoder.is_found.Goals as goal

pub returns-in-Line-clause-line : goal.returns-in-Line-clause-line
returns-in-Line-clause-line c _ = let d = c.self.inside in
    rw (← c.self.view_is) (found_is_line d.finder d.skipped _ (first.Line c.in-Line.field-0)
    (rw c.in-Line.is at c.self.invariant.first_is) refl)

pub returns-in-TooLong-clause-line : goal.returns-in-TooLong-clause-line
returns-in-TooLong-clause-line c _ = let d = c.self.inside in
    rw (← c.self.view_is) (found_is_line d.finder d.skipped _ first.TooLong
    (rw c.in-TooLong.is at c.self.invariant.first_is) refl)
