use Rattle.std.proofs.Common.{refl, sym, ◌∙◌}
use Rattle.unftp_control_serve.proofs.DecoderLemmas.{seen-is}
use Rattle.unftp_control_serve.proofs.decoder.EventDecoder.found_line.Goals as goal

pub returns-in-Line : goal.returns-in-Line
returns-in-Line c = let d = c.self.inside in
    c.split_at.ensures.front ∙ rw (c.pending.ensures, ← c.self.view_is)
    (sym (seen-is d.finder d.skipped _ d.first c.self.invariant.first_is ∙ rw c.in-Line.is refl))

pub returns-in-TooLong : goal.returns-in-TooLong
returns-in-TooLong c = let d = c.self.inside in
    rw (← c.self.view_is)
    (sym (seen-is d.finder d.skipped _ d.first c.self.invariant.first_is ∙ rw c.in-TooLong.is refl))
