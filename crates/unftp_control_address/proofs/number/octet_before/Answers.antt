use Rattle.std.proofs.Common.{◌∙◌, sym, ap, ◌∷◌, option_map}
use Rattle.unftp_control_address.specs.Numbers.{octet, octets_between}
use Rattle.unftp_control_address.proofs.OctetLemmas.{front}
use Rattle.unftp_control_address.proofs.number.octet_before.Goals as goal

pub returns : goal.returns
returns c = front c.args.separator c.args.text.now c.in_ok-number.number c.in_ok-front.ensures.0
    (ap octet (sym c.in_ok-front.ensures.1) ∙ sym c.octet.ensures ∙ c.in_ok-number.was)
    ∙ ap (λ rest. option_map (λ ns. c.in_ok-number.number ∷ ns) (octets_between c.args.separator rest)) (sym c.in_ok-front.ensures.2)
