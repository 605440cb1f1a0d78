use Rattle.std.proofs.Common.{◌∙◌, refl, sym, ap, arith}
use Rattle.std.proofs.lemmas.Bool.{false≢true}
use Rattle.std.proofs.lemmas.Result.{err_from_is_err_and}
use Rattle.unftp_control_serve.specs.Decoder.{kept_length}
use Rattle.unftp_control_serve.proofs.HeardLemmas.{Begins-trans, Begins-refl}
use Rattle.unftp_control_serve.proofs.LineRunLemmas.{halfway-no_memory, Halfway-start, Halfway-next, no_line-answered, line-failed, last_line-answered}
use Rattle.unftp_control_serve.proofs.engine.answer_lines.Goals as goal

pub loop-event-init : goal.loop-event-init
loop-event-init g c =
    record {
      heard = Begins-refl _;
      halfway = λ w so. Halfway-start;
      scanned = refl;
      limit = refl;
      held = refl;
      never_fewer = omega arith;
    }

pub loop-event-preserved : goal.loop-event-preserved
loop-event-preserved g c =
    let before = c.loop-event.invariant in
    let first = rw c.in-Some.is at c.in_ok-event.ensures.takes_next in
    record {
      heard = Begins-trans _ _ _ c.in_ok-answer_event.ensures.heard before.heard;
      halfway = λ w so. Halfway-next (before.halfway w
          (Begins-trans w _ _ so c.in_ok-answer_event.ensures.heard)) before.limit first
          (c.in_ok-answer_event.ensures.outcome w so) (sym (c.done.ensures w) ∙ c.if-done.false);
      scanned = omega (arith, before.scanned, c.in_ok-event.ensures.scanned);
      limit = c.in_ok-event.ensures.limit ∙ before.limit;
      held = c.in_ok-event.ensures.held ∙ before.held;
      never_fewer = omega (arith, before.never_fewer, c.in_ok-event.ensures.never_fewer);
    }

pub returns-in_err-answer_event-clause-outcome : goal.returns-in_err-answer_event-clause-outcome
returns-in_err-answer_event-clause-outcome g c =
    let before = c.loop-event.invariant in
    let first = rw c.in-Some.is at c.in_ok-event.ensures.takes_next in
    let error = err_from_is_err_and c.from_residual-in_err-answer_event.result
    c.from_residual-in_err-answer_event.ensures.1 in
    λ w so. rw (error.1, error.2)
    (line-failed (before.halfway w (Begins-trans w _ _ so c.in_err-answer_event.ensures.heard))
    before.limit first (c.in_err-answer_event.ensures.outcome w so))

pub returns-then-done-clause-outcome : goal.returns-then-done-clause-outcome
returns-then-done-clause-outcome g c =
    let before = c.loop-event.invariant in
    let first = rw c.in-Some.is at c.in_ok-event.ensures.takes_next in
    λ w so. last_line-answered (before.halfway w
    (Begins-trans w _ _ so c.in_ok-answer_event.ensures.heard)) before.limit first
    (c.in_ok-answer_event.ensures.outcome w so) (sym (c.done.ensures w) ∙ c.if-done.true)

pub returns-then-done-clause-unscanned : goal.returns-then-done-clause-unscanned
returns-then-done-clause-unscanned g c =
    let first = rw c.in-Some.is at c.in_ok-event.ensures.takes_next in
    first.few_scanned

pub returns-then-done-clause-kept : goal.returns-then-done-clause-kept
returns-then-done-clause-kept g c = λ on. absurd (false≢true (sym on))

pub returns-in-None-clause-outcome : goal.returns-in-None-clause-outcome
returns-in-None-clause-outcome g c =
    let none = rw c.in-None.is at c.in_ok-event.ensures.takes_next in
    λ w so. no_line-answered (c.loop-event.invariant.halfway w so) none

pub returns-in-None-clause-unscanned : goal.returns-in-None-clause-unscanned
returns-in-None-clause-unscanned g c =
    let none = rw c.in-None.is at c.in_ok-event.ensures.takes_next in
    (omega (arith, none.all_scanned), omega (arith, none.all_scanned))

pub returns-in-None-clause-kept : goal.returns-in-None-clause-kept
returns-in-None-clause-kept g c =
    let none = rw c.in-None.is at c.in_ok-event.ensures.takes_next in
    let kept = rw c.in-None.is at c.in_ok-event.ensures.buffered in
    λ on. kept ∙ none.kept ∙ ap (λ limit. kept_length limit c.loop-event.decoder.bytes)
    c.loop-event.invariant.limit
    ∙ ap (kept_length c.args.decoder.now.limit) (sym none.same)

pub returns-in_err-event-clause-outcome : goal.returns-in_err-event-clause-outcome
returns-in_err-event-clause-outcome g c =
    let error = err_from_is_err_and c.from_residual.result c.from_residual.ensures.1 in
    λ w so. rw (error.1, error.2)
    (halfway-no_memory (c.loop-event.invariant.halfway w so)
    (rw c.loop-event.invariant.limit at c.in_err-event.ensures.may_run_out))
