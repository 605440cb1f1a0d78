-- `with` makes the empty struct, with the answers that its clause names. Assumes `Logic`.
use Rattle.std.proofs.Common.{◌++◌, [], ◌∷◌, refl, w64}
use Rattle.std.proofs.raw_atomic.Walks.{proved}
use types.Kit.{‵, raw, ◌⊛◌, ◌$◌, ◌∵◌, !, qed, move, drop, split, fjoin, suffices, done}
use types.Part.{agg}
use types.Run.{enter, returns, unit_lit, and_then, no_more}
use types.ByLocal.{alloc_all, pass_all, free_all, look_at, sets}
use denote.Builtin.{RefOf, SliceRefOf, u8, usize}
use denote.Exit.{yes}
use denote.Plain.{uint_vals, uint_Tells}
use denote.Ref.{shr_vals, shr_Tells}
use denote.Slice.{shr_slice_vals, shr_slice_Tells}
use denote.RattleType.{owns}
use denote.Signature.{plain, types_at}
use denote.Steps.{nothing}
use mir.Syntax.{named}
use denote.Triple.Entry.{alive}
use denote.Triple.Walked.{Stays, walk_of, says, stay_dropped, Goes-dropped, ends_at}
use Rattle.example_callers.specs.DataAnswers.{numbered_answer}
use Rattle.example_callers.proofs.DataAnswersLemmas.{sealed, answers_made}
use Rattle.example_callers.specs.contracts.transfers.answers.Answers.{the_row as R}
use Rattle.example_callers.specs.contracts.transfers.answers.Answers.with as f
use Rattle.example_callers.proofs.transfers.answers.Answers.with.Statement.{statement}
use Rattle.example_callers.proofs.transfers.answers.Answers.with.Code as code

abbrev stayed : Stays f.ended.signature.params f.ended.kept
stayed = (stay_dropped _ yes, (stay_dropped _ yes, (stay_dropped _ yes, (stay_dropped _ yes, tt))))

pub with_spec : {M : Type 1} → statement M
with_spec 𝓤 𝓛 𝓜 𝓡 wired =
    let c = f.clauses 𝓛 𝓜.mem 𝓡.returns in let W = walk_of 𝓛 f.ended stayed c in
    proved 𝓛 f.ended stayed c 𝓜 𝓡 (
      Goes-dropped 𝓛 2 (RefOf (0 ∷ []) tt (plain (λ _. R)) (λ _. tt)) yes (λ κs x w. refl),
      (
        Goes-dropped 𝓛 2 (plain (λ _. usize)) yes (λ κs x w. refl),
        (
          Goes-dropped 𝓛 2 (plain (λ _. usize)) yes (λ κs x w. refl),
          (
            Goes-dropped 𝓛 2 (SliceRefOf (1 ∷ []) tt (plain (λ _. u8)) (λ _. tt)) yes
                (λ κs x w. refl),
            tt,
          ),
        ),
      ),
    )
    f.Key.name code.function (code.unfolded 𝓤 𝓛.H 𝓜 𝓡 wired)
    (λ κs. (shr_vals, (uint_vals w64, (uint_vals w64, (shr_slice_vals, tt)))))
    (λ κs. (
      shr_Tells (named 0) κs.0 R,
      (uint_Tells w64, (uint_Tells w64, (shr_slice_Tells (named 1) κs.1.0 u8, tt))),
    )) (λ κs qs bounds a _ are.
    let n = a.0.now ++ numbered_answer a.1.0 a.1.1.0 a.1.1.1.0.now ∷ [] in
    let y : W.Ghost = (
      (
        κs,
        qs,
        bounds,
        a,
        (
          shr_vals a.0,
          (uint_vals w64 a.1.0, (uint_vals w64 a.1.1.0, (shr_slice_vals a.1.1.1.0, tt))),
        ),
      ),
      tt,
    ) in
    qed 𝓛 ((raw (alive 𝓛 f.signature κs qs) ⊛ ‵ (owns (types_at f.signature.params κs) a y.0.4)) ∷
    raw ((c κs a).requires tt) ∷ []) ∵ move ! (1 ∷ []) $ drop ! $ split ! $ move !
    (1 ∷ []) $ drop ! $
    enter ! _ _ _ _ _ $ alloc_all !
    (λ l. pass_all ! refl (
      (tt, tt),
      (
        (tt, record { fits = are.1.0.1 }),
        (
          (tt, record { fits = are.1.1.0.1 }),
          ((tt, (tt, (record { fits = are.1.1.1.0.0.1.0 }, tt))), tt),
        ),
      ),
    ) $
    sets ! (agg ! (and_then ! (unit_lit !) (no_more !))) refl (tt, (tt, tt)) $
    answers_made ! n $
    returns ! (look_at ! 0 refl) $ free_all ! refl $
    suffices ! _
    (ends_at 𝓛 f.ended stayed c y sealed n (tt, (tt, (tt, (tt, tt))))
    (tt, (tt, (tt, (tt, tt))))) $ says ! refl $
    nothing ! $ nothing ! $ fjoin ! $ nothing ! $ fjoin ! $ nothing ! $ fjoin ! $ nothing ! $ fjoin
    ! $ move ! (2 ∷ 0 ∷ 1 ∷ []) $ done !))
