use Rattle.std.proofs.Common.{length, eq-eqb, eqb-true}
use Rattle.unftp_control_proxy.proofs.CallLemmas.{found_whole}
use Rattle.unftp_control_proxy.proofs.proxy.is_reply_of.Goals as goal

pub returns-then-found-code : goal.returns-then-found-code
returns-then-found-code c = (
  found_whole c.args.bytes.now c.in-Whole.found c.in-Whole.used c.args.code
      c.in-Whole.ensures.found.0 c.if-found-code.true,
  λ whole. eq-eqb c.in-Whole.used (length c.args.bytes.now)
      (c.in-Whole.ensures.whole c.args.code whole.0 (length c.args.bytes.now) whole.1).1,
)

pub returns-else-found-code : goal.returns-else-found-code
returns-else-found-code c = (
  λ same. absurd (c.if-found-code.false (eqb-true c.in-Whole.found c.args.code same)),
  λ whole. eq-eqb c.in-Whole.found c.args.code
      (c.in-Whole.ensures.whole c.args.code whole.0 (length c.args.bytes.now) whole.1).0,
)
