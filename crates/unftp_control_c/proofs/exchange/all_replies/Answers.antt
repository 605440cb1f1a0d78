use Rattle.std.proofs.Common.{map}
use Rattle.std.proofs.lemmas.Result.{err_from_is_err_and}
use Rattle.unftp_control_read.specs.ReplyDecoding.{content}
use Rattle.unftp_control_c.proofs.ExchangeLemmas.{left_unread_after, one_more}
use Rattle.unftp_control_c.proofs.exchange.all_replies.Goals as goal

pub returns-in_err-rest-clause-err : goal.returns-in_err-rest-clause-err
returns-in_err-rest-clause-err c =
    let error = err_from_is_err_and c.from_residual.result c.from_residual.ensures.1 in
    rw (error.1, error.2) (left_unread_after c.args.bytes.now c.loop-rest.rest.now
    (map content c.loop-rest.replies.items) _ c.loop-rest.invariant
    c.in_err-rest.ensures.err)

pub loop-rest-preserved : goal.loop-rest-preserved
loop-rest-preserved c =
    one_more c.args.bytes.now (map content c.loop-rest.replies.items) c.loop-rest.invariant
    c.in_ok-rest.ensures.ok.1 c.in_ok-rest.ensures.ok.2
