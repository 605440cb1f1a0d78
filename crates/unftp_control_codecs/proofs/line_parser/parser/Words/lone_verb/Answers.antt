use Rattle.std.proofs.Common.{◌≡◌, [], ◌∷◌, slice_index, rules, ap, ◌∙◌, arith}
use Rattle.unftp_control_codecs.proofs.WordLemmas.{alone_says, ignored_says, one_byte}
use Rattle.unftp_control_codecs.proofs.line_parser.parser.Words.lone_verb.Goals as goal

pub returns-in-Ignored-default-clause-says : goal.returns-in-Ignored-default-clause-says
returns-in-Ignored-default-clause-says c = ignored_says c.args.self c.in-Ignored-default.is-0

pub returns-in-Ignored-default-2-clause-says : goal.returns-in-Ignored-default-2-clause-says
returns-in-Ignored-default-2-clause-says c =
    let case = c.in-Ignored-default in
    let first : slice_index c.args.self.parameter.now 0 ≡ 10 = search rules in
    alone_says c.args.self case.is-0 (one_byte _ (omega (arith, case.len_at_least, case.len_below))
    ∙ ap (λ b. b ∷ []) first)
