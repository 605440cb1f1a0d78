use Rattle.std.proofs.Common.{Ok, refl, ◌∙◌, ap}
use Rattle.std.proofs.lemmas.Result.{err_from_is_err_and}
use Rattle.unftp_control_serve.proofs.HeardLemmas.{Begins-refl, Begins-trans}
use Rattle.unftp_control_serve.proofs.MappedLemmas.{mapped-ok, mapped-err}
use Rattle.unftp_control_serve.proofs.EndingLemmas.{failed-at, reply-failed, turn-first, InTurn-more, InTurn-broke, InTurn-end, Replying-start}
use Rattle.unftp_control_serve.proofs.engine.answer_event.Goals as goal

pub returns-in_err-first-clause-outcome : goal.returns-in_err-first-clause-outcome
returns-in_err-first-clause-outcome g c = λ w so.
    let failed = mapped-err c.first.result c.map_err.result c.in_err-first.field-0.0
    c.map_err.ensures.cases c.in_err-first.was in
    let error = err_from_is_err_and c.from_residual.result c.from_residual.ensures.1 in
    let answer = rw failed.1 at (c.first.ensures.answers w so) in
    rw (error.1, error.2, failed.2)
    (failed-at (g.H.Session.law w) _ _ _ failed.0 answer.may_fail refl answer.counted)

pub returns-in_err-send_reply-clause-outcome : goal.returns-in_err-send_reply-clause-outcome
returns-in_err-send_reply-clause-outcome g c = λ w so.
    let first = mapped-ok c.first.result c.map_err.result c.in_ok-first.first
    c.map_err.ensures.cases c.in_ok-first.was in
    let error = err_from_is_err_and c.from_residual-in_err-send_reply.result
    c.from_residual-in_err-send_reply.ensures.1 in
    let answer = rw first at (c.first.ensures.answers w so) in
    rw (error.1, error.2)
    (reply-failed (g.H.Session.law w) (Replying-start (g.H.Session.law w) _ _) _ _
    (turn-first (g.H.Session.law w) _ _ _ answer.says answer.next) answer.quiet _
    c.in_err-send_reply.ensures.sends)

pub loop-reply-init : goal.loop-reply-init
loop-reply-init g c =
    let first = mapped-ok c.first.result c.map_err.result c.in_ok-first.first
    c.map_err.ensures.cases c.in_ok-first.was in
    record {
      heard = c.first.ensures.heard;
      in_turn = λ w so.
          let answer = rw first at (c.first.ensures.answers w so) in
          InTurn-more (g.H.Session.law w) (Replying-start (g.H.Session.law w) _ _) _ _
          (turn-first (g.H.Session.law w) _ _ _ answer.says answer.next) answer.quiet
          c.in_ok-send_reply.ensures.sends;
    }

pub returns-in_err-reply-clause-outcome : goal.returns-in_err-reply-clause-outcome
returns-in_err-reply-clause-outcome g c = λ w so.
    let failed = mapped-err c.further.result c.map_err-in-loop-reply.result
    c.in_err-reply.field-0.0 c.map_err-in-loop-reply.ensures.cases c.in_err-reply.was in
    let error = err_from_is_err_and c.from_residual-in_err-reply.result
    c.from_residual-in_err-reply.ensures.1 in
    let before = c.loop-reply.invariant.in_turn w (Begins-trans w _ _ so c.further.ensures.heard) in
    let answer = rw failed.1 at (c.further.ensures.answers w so) in
    rw (error.1, error.2, failed.2)
    (InTurn-broke (g.H.Session.law w) before _ failed.0 answer.may_break refl answer.counted)

pub loop-reply-preserved : goal.loop-reply-preserved
loop-reply-preserved g c =
    let given = mapped-ok c.further.result c.map_err-in-loop-reply.result c.in_ok-reply.field-0
    c.map_err-in-loop-reply.ensures.cases c.in_ok-reply.was ∙ ap (λ more. Ok more) c.in-Some.is in
    record {
      heard = Begins-trans _ _ _ c.further.ensures.heard c.loop-reply.invariant.heard;
      in_turn = λ w so.
          let before = c.loop-reply.invariant.in_turn w
          (Begins-trans w _ _ so c.further.ensures.heard) in
          let answer = rw given at (c.further.ensures.answers w so) in
          InTurn-more (g.H.Session.law w) before.replying _ _ answer.follows answer.quiet
          c.in_ok-send_reply-2.ensures.sends;
    }

pub returns-in_err-send_reply-2-clause-outcome : goal.returns-in_err-send_reply-2-clause-outcome
returns-in_err-send_reply-2-clause-outcome g c = λ w so.
    let given = mapped-ok c.further.result c.map_err-in-loop-reply.result c.in_ok-reply.field-0
    c.map_err-in-loop-reply.ensures.cases c.in_ok-reply.was ∙ ap (λ more. Ok more) c.in-Some.is in
    let error = err_from_is_err_and c.from_residual-in_err-send_reply-2.result
    c.from_residual-in_err-send_reply-2.ensures.1 in
    let before = c.loop-reply.invariant.in_turn w (Begins-trans w _ _ so c.further.ensures.heard) in
    let answer = rw given at (c.further.ensures.answers w so) in
    rw (error.1, error.2)
    (reply-failed (g.H.Session.law w) before.replying _ _ answer.follows answer.quiet _
    c.in_err-send_reply-2.ensures.sends)

pub returns-clause-outcome : goal.returns-clause-outcome
returns-clause-outcome g c = λ w so.
    let given = mapped-ok c.further.result c.map_err-in-loop-reply.result c.in_ok-reply.field-0
    c.map_err-in-loop-reply.ensures.cases c.in_ok-reply.was
    ∙ ap (λ more. Ok more) c.in_default.is in
    let before = c.loop-reply.invariant.in_turn w (Begins-trans w _ _ so c.further.ensures.heard) in
    let answer = rw given at (c.further.ensures.answers w so) in
    InTurn-end (g.H.Session.law w) before _ answer.follows.0 answer.follows.1 refl answer.quiet

pub loop-reply-smaller : goal.loop-reply-smaller
loop-reply-smaller g c =
    let given = mapped-ok c.further.result c.map_err-in-loop-reply.result c.in_ok-reply.field-0
    c.map_err-in-loop-reply.ensures.cases c.in_ok-reply.was ∙ ap (λ more. Ok more) c.in-Some.is in
    (rw given at (c.further.ensures.answers _ (Begins-refl _))).fewer
