use Rattle.std.proofs.Common.{sym, ap, ◌∙◌, arith}
use Rattle.std.proofs.lemmas.Result.{err_from_is_err_and}
use Rattle.unftp_control_serve.proofs.HeardLemmas.{Begins-trans, Begins-refl}
use Rattle.unftp_control_serve.proofs.ServiceLemmas.{Serving-start, Serving-next, Serving-done, Serving-failed, Serving-all, Serving-read_failed, Serving-too_often}
use Rattle.unftp_control_serve.proofs.service.serve_lines.Goals as goal

pub loop-turn-init : goal.loop-turn-init
loop-turn-init g c = record {
  heard = Begins-refl _;
  serving = λ w so. Serving-start c.limited-engine.ensures;
}

pub returns-in_err-feed-clause-err : goal.returns-in_err-feed-clause-err
returns-in_err-feed-clause-err g c =
    let error = err_from_is_err_and c.from_residual.result c.from_residual.ensures.1 in
    let before = c.loop-turn.invariant.serving _ c.in_err-feed.ensures.heard in
    rw (error.1, error.2) (Serving-failed _ before _ (rw c.in-Some.is at c.in-Ok.ensures) _ _
    (c.in_err-feed.ensures.outcome before.running _ (Begins-refl _)))

pub loop-turn-preserved : goal.loop-turn-preserved
loop-turn-preserved g c = record {
  heard = Begins-trans _ _ _ c.in_ok-feed.ensures.heard c.loop-turn.invariant.heard;
  serving = λ w so.
      let before = c.loop-turn.invariant.serving w
      (Begins-trans w _ _ so c.in_ok-feed.ensures.heard) in
      let fed = c.in_ok-feed.ensures.fed before.running w so in
      let on = ap (λ engine. engine.finished) (sym fed.is) ∙ sym c.finished-is_over.ensures
      ∙ c.if-is_over.false in
      rw fed.is (Serving-next _ before _ (rw c.in-Some.is at c.in-Ok.ensures) _
      (c.in_ok-feed.ensures.outcome before.running w so) _ fed.scanned on);
}

pub returns-then-is_over-clause-ok : goal.returns-then-is_over-clause-ok
returns-then-is_over-clause-ok g c =
    let before = c.loop-turn.invariant.serving _ c.in_ok-feed.ensures.heard in
    let fed = c.in_ok-feed.ensures.fed before.running _ (Begins-refl _) in
    let done = ap (λ engine. engine.finished) (sym fed.is) ∙ sym c.finished-is_over.ensures
    ∙ c.if-is_over.true in
    Serving-done _ before _ (rw c.in-Some.is at c.in-Ok.ensures) _
    (c.in_ok-feed.ensures.outcome before.running _ (Begins-refl _)) _ fed.scanned
    (rw fed.is at c.served_by-then-is_over.ensures) done

pub returns-clause-err : goal.returns-clause-err
returns-clause-err g c = Serving-too_often (c.loop-turn.invariant.serving _ (Begins-refl _))
    (omega (arith, c.loop-turn-test.false))

pub returns-in-Err-clause-err : goal.returns-in-Err-clause-err
returns-in-Err-clause-err g c =
    Serving-read_failed _ (c.loop-turn.invariant.serving _ (Begins-refl _)) c.in-Err.ensures

pub returns-in_default-clause-ok : goal.returns-in_default-clause-ok
returns-in_default-clause-ok g c =
    Serving-all _ (c.loop-turn.invariant.serving _ (Begins-refl _)) c.served_by.ensures
    (rw c.in_default.is at c.in-Ok.ensures)
