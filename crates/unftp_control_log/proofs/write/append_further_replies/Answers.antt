use Rattle.std.proofs.Common.{flat_map, map, take, length, length-append, ap, arith, ◌∙◌}
use Rattle.unftp_control_defs.proofs.AppendLemmas.{kept_start, on_err}
use Rattle.unftp_control_read.specs.ReplyDecoding.{content}
use Rattle.unftp_control_log.specs.ExchangeLine.{further_reply}
use Rattle.unftp_control_log.proofs.RoomLemmas.{so_far}
use Rattle.unftp_control_log.proofs.write.append_further_replies.Goals as goal

pub returns-in_err-append_further_reply-clause-kept :
    goal.returns-in_err-append_further_reply-clause-kept
returns-in_err-append_further_reply-clause-kept c =
    kept_start (flat_map further_reply (map content (take c.loop-reply.reply-index c.args.replies.now)))
    c.append_further_reply.new.buf.items c.args.buf.now.ok.0
    (c.loop-reply.buf.ok.0 ∙ ap length c.loop-reply.invariant.items)
    (c.in_err-append_further_reply.ensures.kept ∙ c.loop-reply.invariant.items)

pub returns-in_err-append_further_reply-clause-memory :
    goal.returns-in_err-append_further_reply-clause-memory
returns-in_err-append_further_reply-clause-memory c =
    let lacks = c.in_err-append_further_reply.ensures.memory in
    on_err c.from_residual.result (omega (
      arith,
      lacks,
      c.loop-reply.buf.ok.0,
      c.args.buf.now.ok.0,
      c.loop-reply.invariant.capacity,
      ap length c.loop-reply.invariant.items,
      length-append c.args.buf.now.items
          (flat_map further_reply (map content (take c.loop-reply.reply-index c.args.replies.now))),
      so_far further_reply content c.args.replies.now c.loop-reply.reply-index c.reply-item.result c.loop-reply-test.true,
      ap (λ reply. length (further_reply (content reply))) c.reply-item.is,
    ))
