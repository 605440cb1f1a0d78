use Rattle.std.proofs.Common.{rules, tests, ◌∙◌, sym}
use Rattle.std.proofs.lemmas.Iterator.{YieldsList-from_slice}
use Rattle.std.proofs.lemmas.Iterator.Search.{position_from_yields_List}
use Rattle.unftp_control_address.specs.HostPorts.{is_outside}
use Rattle.unftp_control_address.proofs.NumberLemmas.{no_place, place, at_end}
use Rattle.unftp_control_address.proofs.host_port.word_len.Goals as goal

pub returns-in-Some : goal.returns-in-Some
returns-in-Some c =
    let h = position_from_yields_List is_outside _ _ _ c.position.ensures.ran
    (YieldsList-from_slice c.args.text.now c.iter.ensures.rest) (λ x r q k. search (rules, tests)) in
    sym (place (sym h ∙ c.in-Some.is)).1

pub returns-in-None : goal.returns-in-None
returns-in-None c =
    let h = position_from_yields_List is_outside _ _ _ c.position.ensures.ran
    (YieldsList-from_slice c.args.text.now c.iter.ensures.rest) (λ x r q k. search (rules, tests)) in
    at_end is_outside c.args.text.now (no_place (sym h ∙ c.in-None.is))
