-- What the derived `==` of replies answers, against what they hold.
use Rattle.std.proofs.Common.{◌≡◌, ◌↔◌, IsTrue, eq-eqb, eqb-true}
use Rattle.std.proofs.lemmas.Bool.{and_parts, and_from}
use Rattle.unftp_control_read.specs.ReplyDecoding.{content}
use Rattle.unftp_control_read.specs.declared.reply.ReceivedReply.{ReceivedReply}
use Rattle.unftp_control_read.specs.contracts.reply.ReceivedReplyPartialEq.TheImpl.{ghosts as of_reply}
use Rattle.unftp_control_read.proofs.SameLemmas.{same_lines}
use Rattle.unftp_control_read.proofs.reply.same_received_replies.Goals as goal

same : (a b : ReceivedReply) → IsTrue (of_reply.eq a b) ↔ (content a ≡ content b)
same a b = (
  λ e.
      let parts = and_parts _ _ e in
      λ i. (eqb-true a.code b.code parts.0 i, (same_lines a.lines.items b.lines.items).0 parts.1 i),
  λ e. and_from _ _ (eq-eqb a.code b.code (λ i. (e i).0))
      ((same_lines a.lines.items b.lines.items).1 (λ i. (e i).1)),
)

pub returns : goal.returns
returns c = same
