use Rattle.std.proofs.Common.{Some}
use Rattle.unftp_control_defs.proofs.ReplyLimitLemmas.{IsTooLongReply-append, IsTooLongReply-front, IsTooLongReply-partial, IsTooLongReply-malformed}
use Rattle.unftp_control.proofs.laws.replies.too_long_replies_stay.Goals as goal

pub returns : goal.returns
returns c = record {
  appended = IsTooLongReply-append;
  longer = λ limit bytes more code lines used long front.
      (IsTooLongReply-front limit front).0 (IsTooLongReply-append (Some limit) bytes more long);
  front = λ limit _ _ _ _. IsTooLongReply-front limit;
  partial = IsTooLongReply-partial;
  malformed = IsTooLongReply-malformed;
}
