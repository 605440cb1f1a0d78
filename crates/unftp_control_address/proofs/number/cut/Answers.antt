use Rattle.std.proofs.Common.{rules, tests, ◌==◌, ap, sym, ◌∙◌, take, drop, ◌+◌}
use Rattle.std.proofs.lemmas.Iterator.{YieldsList-from_slice}
use Rattle.std.proofs.lemmas.Iterator.Search.{position_from_yields_List}
use Rattle.unftp_control_address.proofs.NumberLemmas.{no_place, place}
use Rattle.unftp_control_address.proofs.number.cut.Goals as goal

pub returns-in_err-end : goal.returns-in_err-end
returns-in_err-end c =
    let h = position_from_yields_List (λ b. b == c.args.byte) _ _ _ c.position.ensures.ran (YieldsList-from_slice c.args.text.now c.iter.ensures.rest) (λ x r q k. search (rules, tests)) in
    rw c.from_residual.ensures (no_place (sym h ∙ c.in_err-end.was))

pub returns : goal.returns
returns c =
    let h = position_from_yields_List (λ b. b == c.args.byte) _ _ _ c.position.ensures.ran (YieldsList-from_slice c.args.text.now c.iter.ensures.rest) (λ x r q k. search (rules, tests)) in
    let p = place (sym h ∙ c.in_ok-end.was) in
    (p.0, c.split_at.ensures.front ∙ ap (λ n. take n c.args.text.now) (sym p.1), c.split_at-2.ensures.back ∙ ap (λ n. drop (n + 1) c.args.text.now) (sym p.1))
