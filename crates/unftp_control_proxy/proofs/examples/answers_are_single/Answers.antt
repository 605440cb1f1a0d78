use Rattle.std.proofs.Common.{◌≡◌, ◌∷◌, [], true, false, codes, ap, arith, length, refl, sym, ◌∙◌}
use Rattle.unftp_control_defs.specs.ReplyReader.{FrontReply}
use Rattle.unftp_control_defs.specs.Turns.{is_preliminary}
use Rattle.unftp_control_defs.proofs.ReplyLemmas.{FrontReply-front_of, FrontReply-unique}
use Rattle.unftp_control_proxy.proofs.examples.answers_are_single.Goals as goal

pub returns-clause-single : goal.returns-clause-single
returns-clause-single c = (502, (codes "No" ∷ [], FrontReply-front_of refl), refl)

pub returns-clause-preliminary : goal.returns-clause-preliminary
returns-clause-preliminary c = λ final.
    let front : FrontReply (codes "150 a\r\n") 150 (codes "a" ∷ []) 7 = FrontReply-front_of refl in
    let same : final.0 ≡ 150 = (FrontReply-unique final.1.1 front).0 in
    let e : true ≡ false = ap is_preliminary (sym same) ∙ final.2 in absurd (cc)

pub returns-clause-two : goal.returns-clause-two
returns-clause-two c = λ final.
    let front : FrontReply (codes "200 a\r\n200 b\r\n") 200 (codes "a" ∷ []) 7 =
    FrontReply-front_of refl in
    let same : length (codes "200 a\r\n200 b\r\n") ≡ 7 = (FrontReply-unique final.1.1 front).2 in
    let fourteen : length (codes "200 a\r\n200 b\r\n") ≡ 14 = refl in
    absurd (omega (arith, same, fourteen))
