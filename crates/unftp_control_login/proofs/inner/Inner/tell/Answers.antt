use Rattle.std.proofs.Common.{◌∙◌}
use Rattle.std.proofs.lemmas.Result.{err_from_is_err_and}
use Rattle.unftp_control_serve.proofs.HeardLemmas.{Begins-refl, Begins-trans}
use Rattle.unftp_control_login.proofs.CalledLemmas.{Draining-start, Draining-next, Draining-end, Draining-broke, made-first}
use Rattle.unftp_control_login.proofs.inner.Inner.tell.Goals as goal

pub returns-in_err-pass_on-clause-calls : goal.returns-in_err-pass_on-clause-calls
returns-in_err-pass_on-clause-calls g c = λ w so.
    let error = err_from_is_err_and c.from_residual.result c.from_residual.ensures.1 in
    rw (error.1, error.2) (made-first _ (c.in_err-pass_on.ensures.decided w so).calls)

pub loop-reply-init : goal.loop-reply-init
loop-reply-init g c = record {
  heard = c.in_ok-pass_on.ensures.heard;
  draining = λ w so.
      let passed = c.in_ok-pass_on.ensures.decided w so in
      Draining-start (g.H.Session.law w) passed.next passed.calls;
}

pub returns-in_err-reply-clause-calls : goal.returns-in_err-reply-clause-calls
returns-in_err-reply-clause-calls g c = λ w so.
    let before = c.loop-reply.invariant.draining w
    (Begins-trans w _ _ so c.in_err-reply.ensures.heard) in
    let error =
    err_from_is_err_and c.from_residual-in_err-reply.result c.from_residual-in_err-reply.ensures.1 in
    rw (error.1, error.2)
    (Draining-broke (g.H.Session.law w) before (c.in_err-reply.ensures.calls w so))

pub loop-reply-preserved : goal.loop-reply-preserved
loop-reply-preserved g c = record {
  heard = Begins-trans _ _ _ c.in_ok-reply.ensures.heard c.loop-reply.invariant.heard;
  draining = λ w so.
      let before = c.loop-reply.invariant.draining w
      (Begins-trans w _ _ so c.in_ok-reply.ensures.heard) in
      let follows = rw c.in-Some.is at (c.in_ok-reply.ensures.answers w so).follows in
      Draining-next (g.H.Session.law w) before _ _ follows (c.in_ok-reply.ensures.calls w so);
}

pub loop-reply-smaller : goal.loop-reply-smaller
loop-reply-smaller g c =
    (rw c.in-Some.is at (c.in_ok-reply.ensures.answers _ (Begins-refl _))).fewer

pub returns-clause-next : goal.returns-clause-next
returns-clause-next g c = λ w so.
    let before = c.loop-reply.invariant.draining w
    (Begins-trans w _ _ so c.in_ok-reply.ensures.heard) in
    let follows = rw c.in_default.is at (c.in_ok-reply.ensures.answers w so).follows in
    follows.1 ∙ (Draining-end (g.H.Session.law w) before follows.0
    (c.in_ok-reply.ensures.calls w so)).0

pub returns-clause-calls : goal.returns-clause-calls
returns-clause-calls g c = λ w so.
    let before = c.loop-reply.invariant.draining w
    (Begins-trans w _ _ so c.in_ok-reply.ensures.heard) in
    let follows = rw c.in_default.is at (c.in_ok-reply.ensures.answers w so).follows in
    (Draining-end (g.H.Session.law w) before follows.0 (c.in_ok-reply.ensures.calls w so)).1
