-- A step that the walks of `Answers` share: the empty struct, with any answers. Assumes `Logic`.
use Rattle.std.proofs.Common.{◌≡◌, List, [], ◌∷◌, refl}
use seplogic.Ra.Ura.{Ura}
use mir.Val.{Val, vstruct, vcons, vnil, vunit}
use types.Logic.{Logic}
use types.Kit.{Goal, Step, step, Item, ‵, ◌$◌, fjoin, fpack, feq_i}
use base.Fml.{fsep, ftrue}
use denote.Builtin.{unit}
use denote.RattleType.{Valss}
use denote.Steps.{nothing}
use denote.Struct.Struct.{within}
use Rattle.example_callers.specs.DataAnswers.{DataAnswer}
use Rattle.example_callers.specs.contracts.transfers.answers.Answers.{the_row, the_view, the_invariant}
use Rattle.example_callers.specs.contracts.transfers.answers.Answers.TheInside as Inside
use Rattle.example_callers.specs.declared.transfers.answers.Answers.TheInside as Fields

-- the machine value of every such list
abbrev pub sealed : Val
sealed = vstruct (vcons vunit vnil)

pub answers_made : {M : Type 1} {𝓤 : Ura M} {𝓛 : Logic 𝓤} {K : Type 0} {Γ : List (Item 𝓤)}
    {G : Goal 𝓤 𝓛.H} → K → (n : List DataAnswer)
    → Step K 𝓛 (‵ (the_row.own_val n (sealed ∷ [])) ∷ Γ) G Γ G
answers_made t n = step (λ s.
    let made : Fields.Inside = record { seal = tt; answers = n } in
    nothing t $ nothing t $
    nothing t $ feq_i t (List Val) (vunit ∷ []) (vunit ∷ []) refl $ fjoin t $ feq_i t (List Val)
    (sealed ∷ []) (sealed ∷ []) refl $ fjoin t $
    fpack t (Valss (unit ∷ []))
    (within (record { name = []; args = []; types = []; fields = unit ∷ [] }) (tt, tt)
    (sealed ∷ [])) (vunit ∷ [], tt) $ fjoin t $ fjoin t $
    fpack t ((a : Fields.Inside) × ((the_view a ≡ n) × the_invariant a))
    (λ x. fsep (Inside.the_row.own_val x.0 (sealed ∷ [])) ftrue) (made, (refl, tt)) $ s)
