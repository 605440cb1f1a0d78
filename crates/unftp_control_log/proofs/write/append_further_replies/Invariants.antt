use Rattle.std.proofs.Common.{◌≡◌, ◌≤◌, ◌++◌, flat_map, map, take, vec_capacity}
use Rattle.unftp_control_read.specs.ReplyDecoding.{content}
use Rattle.unftp_control_log.specs.ExchangeLine.{further_reply}
use Rattle.unftp_control_log.proofs.write.append_further_replies.Given as goal

abbrev pub invariant-loop-reply : goal.invariant-loop-reply
invariant-loop-reply l = record {
  items : l.buf.items
      ≡ l.fn.buf.items ++ flat_map further_reply (map content (take l.reply-index l.replies));
  capacity : vec_capacity l.fn.buf ≤ vec_capacity l.buf;
}
