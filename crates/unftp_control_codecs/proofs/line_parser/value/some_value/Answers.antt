use Rattle.std.proofs.Common.{rules, ◌≡◌, None, drop, sym, ◌∙◌}
use Rattle.std.proofs.lemmas.List.{drop-drop}
use Rattle.unftp_control_defs.specs.Bytes.{Bytes}
use Rattle.unftp_control_defs.specs.ComputedValue.{Fresh, later_value}
use Rattle.unftp_control_codecs.proofs.RunLemmas.{Resumes-part, IsLaterLen-invalid}
use Rattle.unftp_control_codecs.proofs.RunLemmas.{Resumes-cr_nul}
use Rattle.unftp_control_codecs.proofs.line_parser.value.some_value.Goals as goal

pub returns-then-not-begins_with_cr_nul : goal.returns-then-not-begins_with_cr_nul
returns-then-not-begins_with_cr_nul c =
    let rest : Bytes = drop 1 c.args.parameter.now in
    let after : c.split_at-2.result.1.now ≡ drop c.fresh_len-end.result rest =
    c.split_at-2.ensures.back ∙ sym (drop-drop c.fresh_len-end.result 1 c.args.parameter.now) in
    let none : later_value Fresh rest ≡ None = IsLaterLen-invalid rest c.fresh_len-end.result
    (rw c.split_at.ensures.back at c.fresh_len-end.ensures)
    (rw after at (sym c.begins_with_line_end.ensures ∙ c.if-begins_with_line_end.false))
    (rw after at (sym c.begins_with_cr_nul-2.ensures ∙ c.if-not-begins_with_cr_nul.true)) in
    search rules

pub escaped_value-requires-clause-goes_on : goal.escaped_value-requires-clause-goes_on
escaped_value-requires-clause-goes_on c = Resumes-cr_nul c.args.parameter.now
    (sym c.begins_with_cr_nul.ensures ∙ c.if-begins_with_cr_nul.true)

pub escaped_value-requires-2-clause-goes_on : goal.escaped_value-requires-2-clause-goes_on
escaped_value-requires-2-clause-goes_on c =
    let back = c.split_at-2.ensures.back in
    Resumes-part c.args.parameter.now c.fresh_len-end.result
    (sym c.begins_with_cr_nul.ensures ∙ c.if-begins_with_cr_nul.false)
    (rw c.split_at.ensures.back at c.fresh_len-end.ensures)
    (rw back at (sym c.begins_with_line_end.ensures ∙ c.if-begins_with_line_end.false))
    (rw back at (sym c.begins_with_cr_nul-2.ensures ∙ c.if-not-begins_with_cr_nul.false))
