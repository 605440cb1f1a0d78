use Rattle.std.proofs.Common.{◌≡◌, ◌<◌, length, drop, ap, ◌∙◌, arith}
use Rattle.unftp_control_message.specs.SentValues.{first_unit_len}
use Rattle.unftp_control_message.proofs.WrittenValueLemmas.{next_room, next_written}
use Rattle.unftp_control_message.proofs.sent.unescape_to.Goals as goal

pub units-preserved : goal.units-preserved
units-preserved c =
    let rest = c.units.rest.now in
    let some : 0 < length rest =
    grind (arith, c.units-test.ensures, c.units-test.true, c.is_empty.ensures) in
    let later : c.split_at.result.1.now ≡ drop (first_unit_len rest) rest =
    c.split_at.ensures.back ∙ ap (λ unit. drop unit rest) c.first_unit_len.ensures in
    next_written c.units.invariant _ later some (next_room c.units.invariant some c.requires)
