use Rattle.std.proofs.Common.{refl}
use Rattle.unftp_control_c.proofs.reply.unftp_front_reply.Goals as goal

pub returns-in-Whole-clause-whole : goal.returns-in-Whole-clause-whole
returns-in-Whole-clause-whole c = λ code lines used front.
    let found = c.in-Whole.ensures.whole code lines used front in
    (c.number.ensures, rw (c.from.ensures, found.0, found.1) refl)

pub returns-in-Partial-clause-whole : goal.returns-in-Partial-clause-whole
returns-in-Partial-clause-whole c = λ code lines used front.
    absurd (c.in-Partial.ensures.whole code lines used front)

pub returns-in-Malformed-clause-whole : goal.returns-in-Malformed-clause-whole
returns-in-Malformed-clause-whole c = λ code lines used front.
    absurd (c.in-Malformed.ensures.whole code lines used front)
