use Rattle.unftp_control_proxy.proofs.laws.all_that_came_is_passed.Goals as goal

pub returns : goal.returns
returns c = record {
  lines = λ limits traffic later is. (is.lines, is.client);
  replies = λ limits traffic later is. (is.replies, is.server);
}
