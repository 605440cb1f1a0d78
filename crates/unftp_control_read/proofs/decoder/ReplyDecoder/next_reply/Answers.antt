use Rattle.std.proofs.Common.{Ok, Err}
use Rattle.std.proofs.lemmas.Result.{err_from_is_err_and}
use Rattle.unftp_control_read.proofs.DecoderLemmas.{whole_next, part_too_long, malformed_is_error, long_is_error}
use Rattle.unftp_control_read.proofs.decoder.ReplyDecoder.next_reply.Goals as goal

pub returns-in_err-reply-clause-whole : goal.returns-in_err-reply-clause-whole
returns-in_err-reply-clause-whole c =
    let error = err_from_is_err_and c.from_residual.result c.from_residual.ensures.1 in
    rw (error.1, error.2) (whole_next c.args.self.now (Err _) c.take_next.new.self
    c.in_err-reply.ensures.takes_next)

pub returns-in_err-reply-clause-partial : goal.returns-in_err-reply-clause-partial
returns-in_err-reply-clause-partial c partial short = absurd
    (short (part_too_long c.args.self.now c.in_err-reply.field-0.0
    c.in_err-reply.ensures.takes_next.0 partial))

pub returns-clause-whole : goal.returns-clause-whole
returns-clause-whole c =
    whole_next c.args.self.now (Ok c.in_ok-reply.reply) c.take_next.new.self
    c.in_ok-reply.ensures.takes_next

pub returns-clause-malformed : goal.returns-clause-malformed
returns-clause-malformed c bad = absurd (malformed_is_error c.args.self.now c.in_ok-reply.reply
    c.take_next.new.self c.in_ok-reply.ensures.takes_next bad)

pub returns-clause-too_long : goal.returns-clause-too_long
returns-clause-too_long c long = absurd (long_is_error c.args.self.now c.in_ok-reply.reply
    c.take_next.new.self c.in_ok-reply.ensures.takes_next long)
