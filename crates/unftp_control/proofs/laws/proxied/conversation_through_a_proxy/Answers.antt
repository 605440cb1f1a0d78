use Rattle.unftp_control.proofs.ProxiedLemmas.{all, so_far}
use Rattle.unftp_control.proofs.laws.proxied.conversation_through_a_proxy.Goals as goal

pub returns : goal.returns
returns g c = record {
  so_far = λ said state greeting limits traffic later steps pending more is same begins clear are
      came. so_far (g.H.Session.law said) state greeting is same clear steps pending are more
      begins came;
  all = λ said state greeting limits traffic later steps pending is same came none_left clear are
      pushed none. all (g.H.Session.law said) state greeting is same clear steps pending are came
      none_left pushed none;
}
