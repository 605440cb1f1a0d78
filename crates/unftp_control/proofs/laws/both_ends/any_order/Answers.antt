use Rattle.unftp_control.proofs.ActLemmas.{taken_all, taken_so_far}
use Rattle.unftp_control.proofs.laws.both_ends.any_order.Goals as goal

pub returns : goal.returns
returns g c = record {
  so_far = λ said state limit client_limit greeting acts client talk clear. taken_so_far (record {
    law = g.H.Session.law said;
    state = state;
    limit = limit;
    greeting = greeting;
  }) client_limit acts client talk clear;
  all = λ said state limit client_limit greeting acts client talk clear came none. taken_all
      (record {
        law = g.H.Session.law said;
        state = state;
        limit = limit;
        greeting = greeting;
      }) client_limit acts client talk clear came none;
}
