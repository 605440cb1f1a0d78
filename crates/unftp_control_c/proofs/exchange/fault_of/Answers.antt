use Rattle.std.proofs.Common.{[], ◌∷◌, ◌++◌, refl}
use Rattle.unftp_control_c.proofs.ExchangeLemmas.{one_more}
use Rattle.unftp_control_c.proofs.exchange.fault_of.Goals as goal

pub loop-rest-preserved : goal.loop-rest-preserved
loop-rest-preserved c =
    let found = c.in-Whole.ensures.found.0 in (
      c.loop-rest.invariant.0 ++ (c.in-Whole.code, found.0) ∷ [],
      one_more c.args.bytes.now c.loop-rest.invariant.0 {reply = (c.in-Whole.code, found.0)} c.loop-rest.invariant.1
          (record {
            used = c.in-Whole.used;
            front = found.1;
            after_is = c.split_at.ensures.back;
          }) refl,
    )
