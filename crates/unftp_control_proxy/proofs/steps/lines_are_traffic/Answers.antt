use Rattle.unftp_control_proxy.specs.ProxyCalls.{AnsweredBy, SentAs}
use Rattle.unftp_control_proxy.proofs.CallLemmas.{decides, forwards, line_in-is}
use Rattle.unftp_control_serve.proofs.ClientLineLemmas.{some_line}
use Rattle.unftp_control_proxy.proofs.steps.lines_are_traffic.Goals as goal

pub returns : goal.returns
returns c = record {
  forward = λ before later sent sent_later may some forwarded is.
      forwards before later sent sent_later may some forwarded is;
  send = λ before later sent may is_line is. decides before later may (SentAs sent) is_line is;
  as_it_is = λ proxy may is_line. line_in-is proxy may (some_line _ is_line);
  answer = λ before later reply may single is.
      decides before later may (AnsweredBy reply) single is;
}
