use Rattle.unftp_control_read.proofs.SearchLemmas.{nothing_searched}
use Rattle.unftp_control_c.specs.NextReply.{reply_call}
use Rattle.unftp_control_c.specs.TakingReplies.{new_search}
use Rattle.unftp_control_c.proofs.NextReplyLemmas.{replies_taken, searched_after, valid_search}
use Rattle.unftp_control_c.proofs.laws.calls_find_replies.Goals as goal

pub returns : goal.returns
returns c = record {
  codes = λ limit steps after are. replies_taken steps (new_search limit) after (nothing_searched _) are;
  searched = λ limit steps after are. searched_after steps (new_search limit) after (nothing_searched _) are;
  not_refused = λ search bytes so. valid_search (reply_call search bytes) so;
}
