use Rattle.std.proofs.Common.{[], ◌∷◌, ◌++◌, subst, ◌∙◌}
use Rattle.unftp_control_defs.specs.Bytes.{DASH}
use Rattle.unftp_control_codecs.specs.Encoding.{padded_line}
use Rattle.unftp_control_commands.specs.Areas.{HasText}
use Rattle.unftp_control_commands.proofs.AreaLemmas.{nothing}
use Rattle.unftp_control_c.proofs.ReplyLemmas.{last_written, line_written, opened}
use Rattle.unftp_control_c.proofs.reply.put_lines.Goals as goal

pub lines-init : goal.lines-init
lines-init c =
    let start = c.args.area.now in
    let digits = c.as_bytes-digits.result.now in (
      digits ++ DASH ∷ [],
      c.put-2.ensures start digits (c.put.ensures start [] (nothing start)),
      opened c.args.code c.args.text.now (c.as_bytes-digits.ensures.value ∙ c.format.ensures.text)
          c.requires,
    )

pub lines-preserved : goal.lines-preserved
lines-preserved c =
    let so_far = c.lines.invariant.0 in (
      so_far ++ padded_line c.without_carriage_return.result.now,
      c.put_padded.ensures c.args.area.now so_far c.lines.invariant.1,
      line_written c.args.code so_far c.lines.rest.now c.in-Some.line.now c.in-Some.after.now
          c.in-Some.ensures.1 c.in-Some.ensures.0 c.without_carriage_return.ensures
          c.lines.invariant.2,
    )

pub returns : goal.returns
returns c =
    let start = c.args.area.now in
    let so_far = c.lines.invariant.0 in
    let digits = c.as_bytes-digits.result.now in
    let rest = c.lines.rest.now in
    subst (λ text. HasText start text c.put_spaced.new.area c.put_spaced.new.len)
    (last_written c.args.code so_far rest
    (c.as_bytes-digits.ensures.value ∙ c.format.ensures.text) c.in_default.ensures
    c.lines.invariant.2)
    (c.put_spaced.ensures start (so_far ++ digits)
    (c.put-3.ensures start so_far c.lines.invariant.1))
