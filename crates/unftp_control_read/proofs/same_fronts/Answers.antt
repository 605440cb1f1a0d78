-- What the derived `==` of fronts answers, against what they hold.
use Rattle.std.proofs.Common.{◌≡◌, ◌↔◌, IsTrue, refl, eq-eqb, eqb-true}
use Rattle.std.proofs.lemmas.Bool.{false≢true, and_parts, and_from}
use Rattle.unftp_control_read.specs.Reading.{front_meant, whole, contents}
use Rattle.unftp_control_read.specs.declared.Front.{Front}
use Rattle.unftp_control_read.specs.declared.Front.TheVariants.{Whole, Partial}
use Rattle.unftp_control_read.specs.contracts.FrontPartialEq.TheImpl.{ghosts as of_Front}
use Rattle.unftp_control_read.proofs.SameLemmas.{same_lines}
use Rattle.unftp_control_read.proofs.same_fronts.Goals as goal

same : (a b : Front) → IsTrue (of_Front.eq a b) ↔ (front_meant a ≡ front_meant b)
same (Whole m ks u) (Whole n ls v) = (
  λ e.
      let parts = and_parts _ _ e in
      let others = and_parts _ _ parts.1 in
      λ i. whole (eqb-true m n parts.0 i) ((same_lines ks.items ls.items).0 others.0 i)
      (eqb-true u v others.1 i),
  λ e.
      let code : m ≡ n = cc in
      let lines : contents ks ≡ contents ls = cc in
      let used : u ≡ v = cc in
      and_from _ _ (eq-eqb m n code)
      (and_from _ _ ((same_lines ks.items ls.items).1 lines) (eq-eqb u v used)),
)
same (Whole m ks u) Partial = ((λ e. absurd (false≢true e)), (λ e. absurd (cc)))
same Partial (Whole n ls v) = ((λ e. absurd (false≢true e)), (λ e. absurd (cc)))
same Partial Partial = ((λ e. refl), (λ e. refl))

pub returns : goal.returns
returns c = same
