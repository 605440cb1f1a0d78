use Rattle.std.proofs.Common.{rules, map, refl}
use Rattle.unftp_control_codecs.proofs.EncodingLemmas.{appended_back}
use Rattle.unftp_control_codecs.proofs.lines.encode_lines.Goals as goal

pub returns-clause-read_back : goal.returns-clause-read_back
returns-clause-read_back g c = appended_back c.args.code (map g.S.AsSlice.items c.args.lines.now)
    c.args.buf.now.items (c.if-not-is_reply_code.ensures.0 refl) c.args.buf.now.ok.0 (search rules)
