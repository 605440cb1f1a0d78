use Rattle.std.proofs.Common.{true, ◌∙◌, ap, refl}
use Rattle.std.proofs.lemmas.Result.{IfOk-weaker}
use Rattle.unftp_control_read.specs.Reading.{opened_by}
use Rattle.unftp_control_read.proofs.CopyLemmas.{one_copied, several_copied}
use Rattle.unftp_control_read.proofs.SearchLemmas.{all_searched}
use Rattle.unftp_control_read.proofs.copying.copy_lines.Goals as goal

pub unreachable-requires : goal.unreachable-requires
unreachable-requires c = (all_searched c.args.bytes.now true c.args.bytes.now refl
    c.in_default.ensures.none).0 c.requires

pub returns-in-One : goal.returns-in-One
returns-in-One c =
    IfOk-weaker c.copy_one.result _ _ (λ copied is code lines used f. is
    ∙ one_copied c.in-Some.line.now c.in-Some.after.now c.in-Some.ensures.cut
    c.in-Some.ensures.is_line (c.in-Some-opening_of.ensures.2
    ∙ ap (opened_by c.in-Some-opening_of.opening.code) c.in-One.is) f) c.copy_one.ensures

pub returns-in-Several : goal.returns-in-Several
returns-in-Several c =
    IfOk-weaker c.copy_several.result _ _ (λ copied is code lines used f.
    is c.in-Some-opening_of.opening.code code lines f.rest
    (several_copied c.in-Some.line.now c.in-Some.after.now c.in-Some.ensures.cut
    c.in-Some.ensures.is_line c.in-Some-opening_of.ensures.1 (c.in-Some-opening_of.ensures.2
    ∙ ap (opened_by c.in-Some-opening_of.opening.code) c.in-Several.is) f)) c.copy_several.ensures
