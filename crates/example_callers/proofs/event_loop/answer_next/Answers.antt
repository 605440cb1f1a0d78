use Rattle.std.proofs.Common.{◌≡◌, ap, sym, ◌∙◌}
use Rattle.example_callers.proofs.EventLoopLemmas.{AnswersNext-taken, left_after-on}
use Rattle.example_callers.proofs.event_loop.answer_next.Goals as goal
use Rattle.example_callers.proofs.event_loop.answer_next.Goals.{in-Close, in_default-turn}
use Rattle.example_callers.specs.EventLoop.{left_after}

pub returns-clause-ok : goal.returns-clause-ok
returns-clause-ok c =
    let left_so : c.match-turn.decoder.bytes ≡ left_after c.turn_after-turn.result
    c.next_event.new.self.bytes = elim c.match-turn.branch [
      | in-Close w ↦ ap (λ decoder. decoder.bytes) (w.decoder-is ∙ w.clear.ensures.cleared)
          ∙ sym (ap (λ turn. left_after turn c.next_event.new.self.bytes) w.in-Close.is)
      | in_default-turn w ↦ ap (λ decoder. decoder.bytes) w.decoder-is
          ∙ sym (left_after-on c.turn_after-turn.result w.in_default-turn.not-Close)
    ] in
    AnswersNext-taken (rw c.in-Some.is at c.in_ok-event.ensures.takes_next) c.pending.ensures
    c.pending-2.ensures c.in_default-answer.ensures.ok c.turn_after-turn.ensures left_so
