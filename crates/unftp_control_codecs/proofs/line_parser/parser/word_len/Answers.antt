use Rattle.std.proofs.Common.{sym, arith}
use Rattle.std.proofs.lemmas.Bool.{false_from_ne_true}
use Rattle.std.proofs.lemmas.List.Sums.{position_or_len_is}
use Rattle.unftp_control_defs.specs.Verbs.{is_separator}
use Rattle.unftp_control_codecs.proofs.line_parser.parser.word_len.Goals as goal

pub returns-in-Some-clause-place : goal.returns-in-Some-clause-place
returns-in-Some-clause-place c =
    let first = c.in-Some.ensures.0 in
    sym (position_or_len_is is_separator c.args.bytes.now c.in-Some.end 0 (omega (arith, first.high))
    (λ k lt. false_from_ne_true _ (first.before k (omega arith) lt))
    (λ lt. c.in-Some.ensures.1))

pub returns-in-None-clause-place : goal.returns-in-None-clause-place
returns-in-None-clause-place c = sym (position_or_len_is is_separator c.args.bytes.now _ 0 (omega arith)
    (λ k lt. false_from_ne_true _ (c.in-None.ensures k (omega arith) lt))
    (λ lt. absurd (omega arith)))
