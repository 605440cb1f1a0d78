use Rattle.std.proofs.Common.{◌≡◌, ◌<◌, length, drop, ap, ◌∙◌, arith}
use Rattle.unftp_control_message.specs.SentValues.{first_unit_len, unescaped}
use Rattle.unftp_control_message.proofs.SentLemmas.{unescaped_step}
use Rattle.unftp_control_message.proofs.sent.unescaped_len.Goals as goal

pub units-preserved : goal.units-preserved
units-preserved c =
    let rest = c.units.rest.now in
    let some : 0 < length rest =
    grind (arith, c.units-test.ensures, c.units-test.true, c.is_empty.ensures) in
    let later : c.split_at.result.1.now ≡ drop (first_unit_len rest) rest =
    c.split_at.ensures.back ∙ ap (λ unit. drop unit rest) c.first_unit_len.ensures in
    record {
      count = omega (
        arith,
        c.units.invariant.count,
        ap length (unescaped_step rest some),
        ap (λ t. length (unescaped t)) later,
      );
      within = grind (
        arith,
        some,
        c.units.invariant.within,
        c.split_at.ensures.back_len,
        c.first_unit_len.ensures,
      );
    }
