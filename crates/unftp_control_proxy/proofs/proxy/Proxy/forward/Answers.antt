use Rattle.std.proofs.Common.{◌≡◌, rules, subst}
use Rattle.std.specs.Prelude.{IfErr}
use Rattle.unftp_control_defs.specs.Lines.{IsLine}
use Rattle.unftp_control_serve.specs.Decoder.{line_in}
use Rattle.unftp_control_proxy.specs.ProxyCalls.{IsForwardingError, send_error}
use Rattle.unftp_control_proxy.proofs.SendLemmas.{empty_is_no_line, not_forwarded, on_ok, removed_again, send_appended}
use Rattle.unftp_control_proxy.proofs.proxy.Proxy.forward.Goals as goal

pub returns-in-Err-clause-why : goal.returns-in-Err-clause-why
returns-in-Err-clause-why c =
    let same : c.found_line-line.result.now ≡ line_in c.args.self.now.client = search rules in
    rw c.send_error.ensures (subst (λ line. IsForwardingError c.args.self.now line
    c.args.to_server.now (send_error c.in-Err.error)) same
    (not_forwarded c.args.self.now c.found_line-line.result.now c.args.to_server.now c.forward.result
    (search rules) c.in-Err.error (search rules) c.in-Err.ensures.why c.forward.ensures.memory))

pub returns-clause-shown : goal.returns-clause-shown
returns-clause-shown c = on_ok c.send_appended.result (search rules)

pub returns-clause-why : goal.returns-clause-why
returns-clause-why c =
    let same : c.found_line-line.result.now ≡ line_in c.args.self.now.client = search rules in
    subst (λ line. IfErr c.send_appended.result
    (IsForwardingError c.args.self.now line c.args.to_server.now)) same
    (send_appended c.args.self.now c.found_line-line.result.now c.args.to_server.now
    c.send_appended.result c.in_default.ensures.ok (search rules) (search rules)
    c.send_appended.ensures.why)

pub returns-then-is_empty-clause-why : goal.returns-then-is_empty-clause-why
returns-then-is_empty-clause-why c =
    let same : c.found_line-line.result.now ≡ line_in c.args.self.now.client = search rules in (
      search rules,
      subst (λ line. ¬ IsLine line) same
          (empty_is_no_line c.found_line-line.result.now (search rules)),
    )

pub returns-clause-out_err : goal.returns-clause-out_err
returns-clause-out_err c = removed_again c.send_appended.result c.len-length.result
    c.args.to_server.now.items c.send_appended.new.to_server.items (search rules)
    (_, c.in_default.ensures.ok.appended) c.send_appended.ensures.removed
