use Rattle.std.proofs.Common.{◌<◌, sym, subst, length, length-drop, refl, arith}
use Rattle.std.specs.Prelude.{IfSome}
use Rattle.std.proofs.lemmas.List.{drop-drop}
use Rattle.std.proofs.lemmas.Result.{err_from_is_err_and}
use Rattle.unftp_control_defs.specs.Buffer.{pending_in}
use Rattle.unftp_control_defs.specs.ReplyReader.{IsPartial}
use Rattle.unftp_control_defs.proofs.ReplyLimitLemmas.{FrontReply-within, length-within}
use Rattle.unftp_control_read.proofs.DecoderLemmas.{all_within, error_at}
use Rattle.unftp_control_read.proofs.decoder.ReplyDecoder.take_next.Goals as goal

pub returns-in_err-code-clause-takes_next : goal.returns-in_err-code-clause-takes_next
returns-in_err-code-clause-takes_next c =
    let error = err_from_is_err_and c.from_residual.result c.from_residual.ensures.1 in
    let refused = rw (c.first_bytes-searched.ensures, c.pending.ensures) at
    c.in_err-code.ensures.refusal in
    rw (error.1, error.2, ← c.self.view_is) (error_at c.self.inside.limit _ _ refused, refl)

pub invariant_of-self-in-Whole : goal.invariant_of-self-in-Whole
invariant_of-self-in-Whole c =
    let within = rw (c.in-Whole.is, c.first_bytes-searched.ensures, c.pending.ensures) at
    c.in_ok-code.ensures.within in
    let buffer = c.self.inside.buffer in
    record {
      start_within = omega (
        arith,
        within.1,
        length-within c.self.inside.limit (pending_in buffer),
        length-drop buffer.start buffer.bytes.items,
        c.self.invariant.start_within,
      );
      searched = c.new-self-inside.ensures.searched _;
      room = c.self.invariant.room;
    }

pub returns-in-Whole-clause-takes_next : goal.returns-in-Whole-clause-takes_next
returns-in-Whole-clause-takes_next c =
    let d = c.self.inside in
    let front = rw (c.in-Whole.is, c.first_bytes-searched.ensures, c.pending.ensures) at
    c.in_ok-code.ensures.front in
    let both = (FrontReply-within d.limit _).0 front in
    rw (← c.self.view_is) (record {
      takes = record {
        used = c.in-Whole.used;
        front = both.0;
        after_is = sym (drop-drop c.in-Whole.used d.buffer.start d.buffer.bytes.items);
      };
      within = both.1;
    })

pub returns-else-is_full-clause-takes_next : goal.returns-else-is_full-clause-takes_next
returns-else-is_full-clause-takes_next c =
    let d = c.self.inside in
    let part = rw (c.in-Partial.is, c.first_bytes-searched.ensures, c.pending.ensures) at
    c.in_ok-code.ensures.front in
    let short = rw (c.first_bytes-searched.ensures, c.pending.ensures) at
    c.is_full.ensures.no c.if-is_full.false in
    let all = all_within d.limit _ short in
    rw (← c.self.view_is) (record {
      partial = subst IsPartial all part;
      same = refl;
      short = subst (λ b. IfSome d.limit (λ most. length b < most)) all short;
    })
