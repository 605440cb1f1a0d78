use Rattle.std.proofs.Common.{◌≡◌, true, bytes_eq, codes, refl, sym, ap, ◌∙◌}
use Rattle.std.proofs.lemmas.Slice.Eq.{bytes_eq-Decides}
use Rattle.std.specs.Str.{is_utf8}
use Rattle.unftp_control_defs.specs.Verbs.{upper, verb_of}
use Rattle.unftp_control_codecs.proofs.OutcomeLemmas.{utf8_md5}
use Rattle.unftp_control_codecs.proofs.WordLemmas.{in_line, no_name}
use Rattle.unftp_control_codecs.proofs.line_parser.parser.site.Goals as goal

pub returns-clause-in_line : goal.returns-clause-in_line
returns-clause-in_line c =
    in_line c.args.parameter.now c.split.result.1.now c.split.ensures.parameter

pub returns-then-is_same_word-clause-in_line : goal.returns-then-is_same_word-clause-in_line
returns-then-is_same_word-clause-in_line c =
    in_line c.args.parameter.now c.split.result.1.now c.split.ensures.parameter

pub returns-then-is_same_word-clause-means : goal.returns-then-is_same_word-clause-means
returns-then-is_same_word-clause-means c =
    let is : upper c.split.result.0.now ≡ codes "MD5" =
    (bytes_eq-Decides _ _).0 (sym c.is_same_word.ensures ∙ c.if-is_same_word.true) in
    let utf8 : is_utf8 (verb_of c.args.parameter.now) ≡ true =
    utf8_md5 _ (ap upper (sym c.split.ensures.verb) ∙ is) in
    let same : bytes_eq (upper (verb_of c.args.parameter.now)) (codes "MD5") ≡ true =
    ap (λ word. bytes_eq (upper word) (codes "MD5")) (sym c.split.ensures.verb)
    ∙ sym c.is_same_word.ensures ∙ c.if-is_same_word.true in
    no_name _ _ refl (rw (utf8, same, c.split.ensures.parameter)) (λ text. (refl, refl))
    (λ is. cc) refl
