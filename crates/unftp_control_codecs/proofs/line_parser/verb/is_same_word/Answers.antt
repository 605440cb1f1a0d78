use Rattle.std.proofs.Common.{sym}
use Rattle.unftp_control_codecs.proofs.CaseLemmas.{same_ignoring_case}
use Rattle.unftp_control_codecs.proofs.line_parser.verb.is_same_word.Goals as goal

pub returns : goal.returns
returns c = sym (same_ignoring_case _ c.args.word.now c.args.other.now
    c.eq_ignore_ascii_case.ensures.test)
