use Rattle.unftp_control_codecs.proofs.EncodingLemmas.{encoded-front}
use Rattle.unftp_control_codecs.proofs.encoding.last_and_front.Goals as goal

pub returns-in-Some : goal.returns-in-Some
returns-in-Some g c = λ code.
    rw c.as_slice.ensures
    (encoded-front g.S.AsSlice.items code c.in-Some.front.now c.in-Some.last.now
    c.in-Some.ensures.cases.0)
