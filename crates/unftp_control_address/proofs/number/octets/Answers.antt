use Rattle.std.proofs.Common.{◌∙◌, sym, ap, arith, ◌-◌, ◌++◌, take, option_map, length-set}
use Rattle.unftp_control_address.specs.Numbers.{octets_between, of_length}
use Rattle.std.proofs.lemmas.List.{length-take-le}
use Rattle.unftp_control_address.proofs.OctetLemmas.{one_more, not_last, full}
use Rattle.unftp_control_address.proofs.number.octets.Goals as goal

pub loop-place-preserved : goal.loop-place-preserved
loop-place-preserved g c = record {
  so_far = c.loop-place.invariant.so_far
      ∙ ap (option_map (λ ns. take c.loop-place.place c.loop-place.octets ++ ns)) c.in_ok-octet.ensures
      ∙ one_more c.loop-place.place c.in_ok-octet.octet c.loop-place.octets (octets_between c.args.separator c.in_ok-octet.more.now) (omega (arith, c.loop-place.invariant.len, c.loop-place-test.true));
  len = length-set c.loop-place.octets c.loop-place.place c.in_ok-octet.octet ∙ c.loop-place.invariant.len;
}

pub returns-in_err-octets : goal.returns-in_err-octets
returns-in_err-octets g c = c.from_residual-in_err-octets.ensures ∙ sym (ap (of_length g.row.N) c.loop-place.invariant.so_far
    ∙ not_last g.row.N (take c.loop-place.place c.loop-place.octets) (octets_between c.args.separator c.loop-place.rest.now)
    (omega (arith, length-take-le c.loop-place.place c.loop-place.octets (omega (arith, c.loop-place.invariant.len, c.loop-place.auto.place-end)), c.loop-place.auto.place-end, c.loop-place-test.false, c.requires.some))
    c.in_err-octets.ensures)

pub returns : goal.returns
returns g c = sym (ap (of_length g.row.N) (c.loop-place.invariant.so_far ∙ ap (option_map (λ ns. take c.loop-place.place c.loop-place.octets ++ ns)) c.in_ok-octets.ensures)
    ∙ full c.loop-place.place (g.row.N - 1) c.in_ok-octets.field-0 g.row.N c.loop-place.octets c.loop-place.invariant.len (omega (arith, c.loop-place.auto.place-end, c.loop-place-test.false)) (omega (arith, c.requires.some)))
