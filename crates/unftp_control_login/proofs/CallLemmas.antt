-- A step that the walks of `Calls` share: the empty struct, with any calls. Assumes `Logic`.
use Rattle.std.proofs.Common.{◌≡◌, List, [], ◌∷◌, refl}
use seplogic.Ra.Ura.{Ura}
use mir.Val.{Val, vstruct, vcons, vnil, vunit}
use types.Logic.{Logic}
use types.Kit.{Goal, Step, step, Item, ‵, ◌$◌, fjoin, fpack, feq_i}
use base.Fml.{fsep, ftrue}
use denote.Builtin.{unit}
use denote.RattleType.{Valss}
use denote.Steps.{nothing}
use denote.Struct.Struct.{within}
use Rattle.unftp_control_login.specs.HandlerCalls.{HandlerCall}
use Rattle.unftp_control_login.specs.contracts.calls.Calls.{the_row, the_view, the_invariant}
use Rattle.unftp_control_login.specs.contracts.calls.Calls.TheInside as Inside
use Rattle.unftp_control_login.specs.declared.calls.Calls.TheInside as Fields

-- the machine value of every list of calls
abbrev pub sealed : Val
sealed = vstruct (vcons vunit vnil)

pub calls_made : {M : Type 1} {𝓤 : Ura M} {𝓛 : Logic 𝓤} {K : Type 0} {Γ : List (Item 𝓤)}
    {G : Goal 𝓤 𝓛.H} → K → (n : List HandlerCall)
    → Step K 𝓛 (‵ (the_row.own_val n (sealed ∷ [])) ∷ Γ) G Γ G
calls_made t n = step (λ s.
    let made : Fields.Inside = record { seal = tt; calls = n } in
    nothing t $ nothing t $
    nothing t $ feq_i t (List Val) (vunit ∷ []) (vunit ∷ []) refl $ fjoin t $ feq_i t (List Val)
    (sealed ∷ []) (sealed ∷ []) refl $ fjoin t $
    fpack t (Valss (unit ∷ []))
    (within (record { name = []; args = []; types = []; fields = unit ∷ [] }) (tt, tt)
    (sealed ∷ [])) (vunit ∷ [], tt) $ fjoin t $ fjoin t $
    fpack t ((a : Fields.Inside) × ((the_view a ≡ n) × the_invariant a))
    (λ x. fsep (Inside.the_row.own_val x.0 (sealed ∷ [])) ftrue) (made, (refl, tt)) $ s)
