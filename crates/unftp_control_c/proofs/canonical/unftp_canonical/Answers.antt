use Rattle.std.proofs.Common.{◌≡◌, sym, ap, subst, ◌∙◌}
use Rattle.unftp_control_defs.specs.Outcome.{outcome}
use Rattle.unftp_control_c.specs.declared.status.Status.TheVariants.{NoLine, OutOfMemory}
use Rattle.unftp_control_c.specs.CanonicalLines.{IsCanonical}
use Rattle.unftp_control_c.proofs.AreaLemmas.{made_text, why_none, written_text}
use Rattle.unftp_control_c.proofs.CanonicalLineLemmas.{has_line, not_done}
use Rattle.unftp_control_c.proofs.canonical.unftp_canonical.Goals as goal

pub returns-clause-has_line : goal.returns-clause-has_line
returns-clause-has_line c = λ is_line none.
    let why = why_none _ c.args.out.now NoLine (λ e. cc) (λ e. cc)
    (sym (ap (λ filled. filled.result) c.write.ensures) ∙ none) in
    has_line c.args.line.now
    (subst (IsCanonical c.args.line.now) why c.canonical_line.ensures.canonical) is_line

pub returns-clause-memory : goal.returns-clause-memory
returns-clause-memory c = λ out.
    let why = why_none _ c.args.out.now OutOfMemory (λ e. cc) (λ e. cc)
    (sym (ap (λ filled. filled.result) c.write.ensures) ∙ out) in
    subst (IsCanonical c.args.line.now) why c.canonical_line.ensures.canonical

pub returns-clause-read_back : goal.returns-clause-read_back
returns-clause-read_back c = λ done.
    let left = c.write.ensures in
    rw (ap (λ filled. filled.text_length) left, ap (λ filled. filled.area) left)
    (written_text (λ text. outcome text ≡ outcome c.args.line.now) c.args.out.now _
    (λ e. let refused = subst (IsCanonical c.args.line.now) e c.canonical_line.ensures.canonical in
    not_done refused.0 refused.2)
    (made_text (λ text. outcome text ≡ outcome c.args.line.now) c.canonical_line.result
    c.canonical_line.ensures.read_back) (sym (ap (λ filled. filled.result) left) ∙ done))
