use Rattle.std.proofs.Common.{◌+◌, sym, ap, ◌∙◌, arith}
use Rattle.std.proofs.lemmas.Bool.Decides.{nat_tests}
use Rattle.std.proofs.lemmas.List.Sums.{position_or_len_is}
use Rattle.std.specs.List.{position_or_len}
use Rattle.unftp_control_defs.specs.Verbs.{is_separator}
use Rattle.unftp_control_codecs.proofs.VerbLemmas.{separator_later}
use Rattle.unftp_control_codecs.proofs.line_parser.parser.verb_len.Goals as goal

pub returns-then-matches-clause-place : goal.returns-then-matches-clause-place
returns-then-matches-clause-place c = sym (position_or_len_is is_separator c.args.line.now
    4 0 (omega arith) (c.four_go_on.ensures c.if-not-four_go_on.false)
    (λ lt. grind (arith, nat_tests)))

pub returns-clause-place : goal.returns-clause-place
returns-clause-place c =
    sym (separator_later c.args.line.now 4 (omega arith)
    (c.four_go_on.ensures c.if-not-four_go_on.false)
    ∙ ap (λ n. 4 + n) (ap (position_or_len is_separator) (sym c.split_at.ensures.back)
    ∙ sym c.word_len.ensures.place))
