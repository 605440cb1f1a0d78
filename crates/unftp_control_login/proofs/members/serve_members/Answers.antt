use Rattle.std.proofs.Common.{sym, ap, subst, ◌∙◌}
use Rattle.std.proofs.lemmas.Result.{IfOk-weaker}
use Rattle.std.specs.Prelude.{Some}
use Rattle.unftp_control_defs.specs.Run.{text_for}
use Rattle.unftp_control_login.specs.Gate.{gated_law}
use Rattle.unftp_control_login.specs.GateState.{gated}
use Rattle.unftp_control_login.specs.Promises.{MembersAlone}
use Rattle.unftp_control_login.proofs.AskedLemmas.{asked-text, closed-is}
use Rattle.unftp_control_login.proofs.MemberLemmas.{guarded-members-alone}
use Rattle.unftp_control_login.proofs.members.serve_members.Goals as goal

pub returns-clause-members : goal.returns-clause-members
returns-clause-members g c = λ closed sends.
    let served = c.serve_with_limit in
    let old = c.args.gate.now in
    let limit = Some c.args.line_limit in
    let law = g.H.Session.law (g.H.Session.heard served.new.handler.inner.handler) in
    let first = gated g.A.Accounts.accepts g.H.Session.state old in
    IfOk-weaker served.result _ _ (λ report serves. (
      serves.read,
      _,
      serves.given,
      serves.written,
      subst (MembersAlone limit first.accepts serves.read)
          (sym (asked-text law limit old.accounts.questions first serves.read
          ∙ ap (λ s. text_for limit (gated_law law) s serves.read) (closed-is first closed)))
          (guarded-members-alone law first.inner sends limit first.accepts first.left serves.read),
    )) served.ensures.serves
