use Rattle.std.proofs.Common.{subst}
use Rattle.unftp_control_read.specs.Reading.{ReturnsFront, contents}
use Rattle.unftp_control_c.proofs.ExchangeLemmas.{pushed_reply}
use Rattle.unftp_control_c.proofs.exchange.take_reply.Goals as goal

pub returns-else-is_err-clause-ok : goal.returns-else-is_err-clause-ok
returns-else-is_err-clause-ok c =
    let code = c.in-Ok-Whole.code in
    let lines = c.in-Ok-Whole.lines in (
      (code, contents lines),
      record {
        used = c.in-Ok-Whole.used;
        front = subst (ReturnsFront c.args.bytes.now) c.in-Ok-Whole.field-0-is
            c.in-Ok-Whole.ensures.front;
        after_is = c.split_at.ensures.back;
      },
      pushed_reply c.args.replies.now c.push.new.self (record { code = code; lines = lines })
          c.push.result c.push.ensures.items c.if-is_err.false c.is_err.ensures.value,
    )
