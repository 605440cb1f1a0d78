use Rattle.std.proofs.lemmas.Result.{err_from_is_err_and}
use Rattle.unftp_control_client.proofs.Client.next_reply.Goals as goal

pub returns-in_err-reply-clause-whole : goal.returns-in_err-reply-clause-whole
returns-in_err-reply-clause-whole c =
    let error = err_from_is_err_and c.from_residual.result c.from_residual.ensures.1 in
    rw (error.1, error.2) c.in_err-reply.ensures.whole

pub returns-in-Some-clause-whole : goal.returns-in-Some-clause-whole
returns-in-Some-clause-whole c =
    rw c.add_reply.ensures.to (rw c.in-Some.is at c.in_ok-reply.ensures.whole)
