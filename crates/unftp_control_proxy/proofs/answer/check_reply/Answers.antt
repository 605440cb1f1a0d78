use Rattle.std.proofs.Common.{sym, ◌∙◌}
use Rattle.std.proofs.lemmas.Bool.{false≢true}
use Rattle.unftp_control_message.specs.ReplyMeaning.{reply_of}
use Rattle.unftp_control_proxy.proofs.AnswerLemmas.{answer_is, not_plain}
use Rattle.unftp_control_proxy.proofs.answer.check_reply.Goals as goal

pub returns-then-not-is_plain-clause-why : goal.returns-then-not-is_plain-clause-why
returns-then-not-is_plain-clause-why c = (
  sym c.is_final.ensures ∙ c.if-not-is_final.false,
  not_plain (reply_of c.args.reply.now)
      (λ plain. false≢true (sym c.if-not-is_plain.true ∙ c.is_plain.ensures.1 plain)),
)

pub returns-clause-ok : goal.returns-clause-ok
returns-clause-ok c = λ _. answer_is (reply_of c.args.reply.now)
    (sym c.is_final.ensures ∙ c.if-not-is_final.false)
    (c.is_plain.ensures.0 c.if-not-is_plain.false)
