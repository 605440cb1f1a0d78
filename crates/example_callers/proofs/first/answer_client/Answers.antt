use Rattle.std.proofs.Common.{Some, sym, ap, ◌∙◌}
use Rattle.std.proofs.lemmas.Result.{IfOk-weaker, MatchResult-from_both}
use Rattle.unftp_control_defs.specs.Run.{text_for}
use Rattle.example_callers.proofs.CallerLemmas.{both}
use Rattle.example_callers.proofs.first.answer_client.Goals as goal

pub returns : goal.returns
returns g c =
    let served = c.serve_with_limit-served in
    let from = c.new-input.ensures in
    let to = c.new-output.ensures in
    let said = simp (
      from.reader,
      from.given,
      from.reads,
      from.failures,
      to.writer,
      to.taken,
      to.unflushed,
      to.failures,
    ) at (both served.ensures.serves
    (MatchResult-from_both served.result _ _ served.ensures.ok served.ensures.err)) in
    record {
      written = IfOk-weaker served.result _ _ (λ served serves. serves.written.taken
          ∙ ap (text_for (Some 8192) (g.H.Session.law
          (g.H.Session.heard c.serve_with_limit-served.new.handler))
          (g.H.Session.state c.args.handler.now)) (sym serves.given.given)) said.0;
      session = said.1;
    }
