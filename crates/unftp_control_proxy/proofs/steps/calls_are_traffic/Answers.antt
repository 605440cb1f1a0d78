use Rattle.std.proofs.Common.{[], sym, ap, append-nil, ◌∙◌}
use Rattle.unftp_control_proxy.specs.ProxyCalls.{ProxyState}
use Rattle.unftp_control_proxy.proofs.CallLemmas.{found_only, gives_answer, passes_reply, pieces, settled_only}
use Rattle.unftp_control_proxy.proofs.steps.calls_are_traffic.Goals as goal

pub returns : goal.returns
returns c = record {
  from_client = λ before later piece is. pieces before later
      (ap (λ (p : ProxyState). p.dialogue) is) (ap (λ (p : ProxyState). p.answer) is)
      (ap (λ (p : ProxyState). p.limits) is) (ap (λ (p : ProxyState). p.client.limit) is) piece []
      (sym (ap (λ (p : ProxyState). p.client.bytes) is))
      (append-nil before.server.bytes ∙ sym (ap (λ (p : ProxyState). p.server.bytes) is));
  from_server = λ before later piece is. pieces before later
      (ap (λ (p : ProxyState). p.dialogue) is) (ap (λ (p : ProxyState). p.answer) is)
      (ap (λ (p : ProxyState). p.limits) is) (ap (λ (p : ProxyState). p.client.limit) is) [] piece
      (append-nil before.client.bytes ∙ sym (ap (λ (p : ProxyState). p.client.bytes) is))
      (sym (ap (λ (p : ProxyState). p.server.bytes) is));
  next_line = λ before later is. found_only before later is;
  none_given = λ before later is. settled_only before later is;
  answered = λ before later reply gives. gives_answer before later reply gives;
  reply = λ before later came given passes. passes_reply before later came given passes;
}
