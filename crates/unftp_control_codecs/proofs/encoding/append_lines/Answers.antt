use Rattle.std.proofs.Common.{◌++◌, ap, decimal, map, ◌∙◌}
use Rattle.std.proofs.lemmas.Result.{on_ok_weaker}
use Rattle.unftp_control_defs.specs.FtpReply.{MultiLine, encoded, spaced_line}
use Rattle.unftp_control_codecs.specs.Encoding.{lines_before_last}
use Rattle.unftp_control_codecs.proofs.EncodingLemmas.{appended-parts}
use Rattle.unftp_control_codecs.proofs.encoding.append_lines.Goals as goal

pub returns-clause-ok : goal.returns-clause-ok
returns-clause-ok g c = on_ok_weaker c.append_spaced_line.result
    (λ e. e ∙ appended-parts c.reserve.new.self.items
    (lines_before_last c.args.code (map g.S.AsSlice.items c.last_and_front.result.1.now))
    (decimal c.args.code) (spaced_line c.last_and_front.result.0.now)
    (c.last_and_front.ensures c.args.code) c.in_ok-append_lines_before_last.ensures.ok
    c.in_ok-append_code.ensures.ok
    ∙ ap (λ start. start
    ++ encoded (MultiLine c.args.code (map g.S.AsSlice.items c.args.lines.now)))
    c.reserve.ensures.items)
    c.append_spaced_line.ensures.ok
