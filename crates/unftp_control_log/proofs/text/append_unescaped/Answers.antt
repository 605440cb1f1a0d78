use Rattle.std.proofs.Common.{◌≡◌, ◌<◌, ◌++◌, ◌∙◌, length, length-append, take, drop, ap, arith, rules}
use Rattle.unftp_control_defs.proofs.AppendLemmas.{on_err}
use Rattle.unftp_control_log.specs.LogLine.{shown}
use Rattle.unftp_control_message.specs.SentValues.{first_unit_len, unescaped}
use Rattle.unftp_control_log.proofs.UnescapedLemmas.{first_unit, kept_still, one_unit_more}
use Rattle.unftp_control_log.proofs.text.append_unescaped.Goals as goal

pub returns-in_err-append_shown-clause-memory : goal.returns-in_err-append_shown-clause-memory
returns-in_err-append_shown-clause-memory c =
    let some : 0 < length c.bytes.rest.now = search rules in
    let lacks = c.in_err-append_shown.ensures.memory in
    on_err c.from_residual.result (omega (
      arith,
      lacks,
      c.bytes.invariant.capacity,
      c.bytes.buf.ok.0,
      c.args.buf.now.ok.0,
      ap length c.bytes.invariant.whole,
      length-append c.args.buf.now.items (shown (unescaped c.args.sent.now)),
      length-append c.bytes.buf.items (shown (unescaped c.bytes.rest.now)),
      ap length (first_unit c.bytes.rest.now some),
      length-append (shown (take 1 c.bytes.rest.now))
          (shown (unescaped (drop (first_unit_len c.bytes.rest.now) c.bytes.rest.now))),
      ap (λ text. length (shown text)) c.split_at.ensures.front,
    ))

pub bytes-preserved : goal.bytes-preserved
bytes-preserved c =
    let some : 0 < length c.bytes.rest.now = search rules in
    let items : c.append_shown.new.buf.items
    ≡ c.bytes.buf.items ++ shown (take 1 c.bytes.rest.now) = c.in_ok-append_shown.ensures.ok
    ∙ ap (λ text. c.bytes.buf.items ++ shown text) c.split_at.ensures.front in
    record {
      whole = one_unit_more (shown (unescaped c.args.sent.now)) c.args.buf.now.items
          c.bytes.buf.items c.append_shown.new.buf.items c.bytes.rest.now
          c.split_at-in-bytes.result.1.now c.bytes.invariant.whole some
          (c.split_at-in-bytes.ensures.back
          ∙ ap (λ unit. drop unit c.bytes.rest.now) c.unit_len.ensures) items;
      kept = kept_still _ c.bytes.buf.items _ _ _ c.bytes.invariant.longer
          c.in_ok-append_shown.ensures.kept c.bytes.invariant.kept;
      longer = omega (
        arith,
        c.bytes.invariant.longer,
        c.bytes.buf.ok.0,
        c.append_shown.new.buf.ok.0,
        ap length items,
        length-append c.bytes.buf.items (shown (take 1 c.bytes.rest.now)),
      );
      capacity = omega (
        arith,
        c.bytes.invariant.capacity,
        c.in_ok-append_shown.ensures.capacity,
      );
    }
