use Rattle.std.proofs.Common.{◌<◌, subst, length}
use Rattle.std.specs.Prelude.{IfSome}
use Rattle.unftp_control_defs.specs.ReplyReader.{IsPartial}
use Rattle.unftp_control_defs.proofs.ReplyLimitLemmas.{FrontReply-within}
use Rattle.unftp_control_read.proofs.DecoderLemmas.{all_within}
use Rattle.unftp_control_read.proofs.search.Search.find_first.Goals as goal

pub returns-in-Whole-clause-finds : goal.returns-in-Whole-clause-finds
returns-in-Whole-clause-finds c so =
    let found = rw (c.in-Whole.is, c.first_bytes-searched.ensures) at c.find_front.ensures.finds in
    let is = found so in
    let front = (FrontReply-within c.args.limit c.args.bytes.now).0 is.0.1 in
    record { lines = is.0.0; front = front.0; within = front.1 }

pub returns-else-is_full-clause-finds : goal.returns-else-is_full-clause-finds
returns-else-is_full-clause-finds c so =
    let part = (rw (c.in-Partial.is, c.first_bytes-searched.ensures) at c.find_front.ensures.finds) in
    let short = rw c.first_bytes-searched.ensures at c.is_full.ensures.no c.if-is_full.false in
    let all = all_within c.args.limit c.args.bytes.now short in (
      subst IsPartial all (part so),
      subst (λ b. IfSome c.args.limit (λ most. length b < most)) all short,
    )
