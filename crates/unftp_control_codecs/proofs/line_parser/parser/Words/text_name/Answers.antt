use Rattle.std.proofs.Common.{◌≡◌, [], eqb-true, sym, ap, ◌∙◌}
use Rattle.std.specs.Str.{is_utf8}
use Rattle.std.proofs.lemmas.List.{nil_from_length}
use Rattle.std.proofs.lemmas.Str.{is_utf8-from_IsUtf8}
use Rattle.unftp_control_codecs.proofs.OutcomeLemmas.{utf8_empty}
use Rattle.unftp_control_codecs.proofs.line_parser.parser.Words.text_name.Goals as goal

pub returns-then-is_empty-clause-ok : goal.returns-then-is_empty-clause-ok
returns-then-is_empty-clause-ok c =
    let empty : c.args.self.name.now ≡ [] =
    nil_from_length _ (eqb-true _ 0 (sym c.is_empty.ensures ∙ c.if-is_empty.true)) in
    (sym empty, ap is_utf8 empty ∙ utf8_empty)

pub returns-clause-ok : goal.returns-clause-ok
returns-clause-ok c =
    let is = c.in_ok-from_utf8.ensures.cases in
    (is.0, is_utf8-from_IsUtf8 _ is.1)
