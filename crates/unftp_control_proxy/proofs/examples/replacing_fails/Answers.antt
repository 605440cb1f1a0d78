use Rattle.std.proofs.Common.{◌≡◌, ◌∷◌, [], None, Ok, ap, arith, codes, refl, subst, sym}
use Rattle.unftp_control_defs.specs.ReplyReader.{FrontReply}
use Rattle.unftp_control_defs.proofs.ReplyLemmas.{FrontReply-front_of, FrontReply-unique, IsMalformed-front_of, IsPartial-front_of}
use Rattle.unftp_control_client.specs.Dialogue.{owes_reply}
use Rattle.unftp_control_proxy.specs.ProxyAnswers.{IsReplyOf}
use Rattle.unftp_control_proxy.proofs.ExampleLemmas.{whole_220, whole_is_found}
use Rattle.unftp_control_proxy.proofs.examples.replacing_fails.Goals as goal

pub returns-clause-part : goal.returns-clause-part
returns-clause-part c = λ proxy out limit bytes.
    (Ok None, rw (limit, bytes) (IsPartial-front_of (codes "220 a\r") refl, tt), tt)

pub returns-clause-whole : goal.returns-clause-whole
returns-clause-whole c = λ proxy out limit bytes why.
    whole_is_found why.0 (rw (limit, bytes) at why.1) why.2

pub returns-clause-other_code : goal.returns-clause-other_code
returns-clause-other_code c = λ proxy out start limit bytes. (
  220,
  7,
  (
    ap owes_reply start,
    rw (limit, bytes) (record { lines = codes "a" ∷ []; front = whole_220; within = tt }),
  ),
  λ reply.
      let other : FrontReply (codes "120 b\r\n") 120 (codes "b" ∷ []) 7 = FrontReply-front_of refl in
      let same : 220 ≡ 120 = (FrontReply-unique reply.1 other).0 in absurd (omega (arith, same)),
)

pub returns-clause-same_code : goal.returns-clause-same_code
returns-clause-same_code c = λ proxy out bytes why.
    let code = (FrontReply-unique (rw bytes at why.2.1.front) whole_220).0 in
    why.3 (subst (λ code. IsReplyOf code (codes "220 b\r\n")) (sym code)
    (codes "b" ∷ [], FrontReply-front_of refl))

pub returns-clause-malformed : goal.returns-clause-malformed
returns-clause-malformed c = λ proxy out none limit bytes.
    (none, rw (limit, bytes) (IsMalformed-front_of (codes "21 a\r\n") refl))
