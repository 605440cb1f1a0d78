use Rattle.std.proofs.Common.{◌≡◌, ap, arith, get_or, refl}
use Rattle.unftp_control_c.proofs.examples.areas_have_texts.Goals as goal

pub returns-clause-written : goal.returns-clause-written
returns-clause-written c = record { same_length = refl; counts = refl; is = λ _. refl }

pub returns-clause-not_written : goal.returns-clause-not_written
returns-clause-not_written c = λ has.
    let first : 120 ≡ 97 = ap (λ area. get_or area 0 0) (has.is (omega arith)) in
    absurd (omega (arith, first))

pub returns-clause-no_room : goal.returns-clause-no_room
returns-clause-no_room c =
    record { same_length = refl; counts = refl; is = λ fits. absurd (omega (arith, fits)) }

pub returns-clause-no_part : goal.returns-clause-no_part
returns-clause-no_part c = λ has. absurd (omega (arith, has.counts))
