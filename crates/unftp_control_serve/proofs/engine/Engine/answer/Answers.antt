use Rattle.std.proofs.Common.{◌≡◌, false, sym, ap, ◌∙◌, inr}
use Rattle.unftp_control_serve.specs.Engine.{has_failed, has_finished}
use Rattle.unftp_control_serve.proofs.EngineLemmas.{WasFed, fed-ended, fed-on}
use Rattle.unftp_control_serve.proofs.engine.Engine.answer.Goals.{then-ended, else-ended}
use Rattle.unftp_control_serve.proofs.engine.Engine.answer.Goals as goal

pub returns-after-ended-clause-fed : goal.returns-after-ended-clause-fed
returns-after-ended-clause-fed g c =
    let inside = c.self.inside in
    let not_failed : has_failed inside.phase ≡ false = ap (λ engine. engine.failed) c.self.view_is
    ∙ c.requires.0 in
    let not_finished : has_finished inside.phase ≡ false =
    ap (λ engine. engine.finished) c.self.view_is ∙ c.requires.1 in
    let before = c.self.invariant not_failed in
    let lines = c.in-Ok.ensures in
    let pushed = c.in_default.ensures.ok in
    λ w so.
    let run = rw pushed at (lines.outcome w so) in
    let was_fed : WasFed (g.H.Session.law w) (g.H.Session.state c.args.handler.now) inside.decoder
    c.answer_lines.new.decoder c.args.piece.now c.in-Ok.ended =
    record {
      all_scanned = before.0;
      ends = run.ended_is;
      pending = run.left_is;
      unscanned = lines.unscanned;
      same_limit = rw pushed at lines.limit;
      same_held = rw pushed at lines.held;
      scanned_once = rw pushed at lines.scanned_once;
    } in
    rw (sym c.self.view_is) (elim c.if-ended.branch [
      | then-ended b ↦
          rw (b.self-is, b.clear.ensures.cleared, c.left-self-inside.ensures)
          (fed-ended was_fed inside.left (has_failed inside.phase) (has_finished inside.phase)
          b.if-ended.true)
      | else-ended b ↦
          rw (b.self-is, not_failed, not_finished, c.left-self-inside.ensures)
          (fed-on was_fed inside.left false false b.if-ended.false
          (rw pushed at (lines.kept b.if-ended.false)))
    ])

pub returns-after-ended-clause-outcome : goal.returns-after-ended-clause-outcome
returns-after-ended-clause-outcome g c = λ w so.
    rw (sym c.self.view_is)
    (rw c.in_default.ensures.ok at (c.in-Ok.ensures.outcome w so).answered)

pub returns-in-Err-answer_lines-clause-outcome : goal.returns-in-Err-answer_lines-clause-outcome
returns-in-Err-answer_lines-clause-outcome g c = λ w so.
    rw (sym c.self.view_is)
    (inr (rw c.in_default.ensures.ok at (c.in-Err-answer_lines.ensures.outcome w so)))
