use Rattle.std.proofs.Common.{None, Some, [], ◌∷◌}
use Rattle.std.proofs.lemmas.Bool.Decides.{Decides-eqb}
use Rattle.std.proofs.lemmas.Slice.Eq.{strip_prefix_is}
use Rattle.unftp_control_defs.specs.Bytes.{SP}
use Rattle.unftp_control_read.proofs.LineLemmas.{after_digits}
use Rattle.unftp_control_read.proofs.lines.last_text.Goals as goal

pub returns-in_err-strip_prefix-clause-none : goal.returns-in_err-strip_prefix-clause-none
returns-in_err-strip_prefix-clause-none c =
    rw c.from_residual.ensures
    (λ text. strip_prefix_is Decides-eqb c.args.line.now c.args.digits.now None
    c.in_err-strip_prefix.ensures.cases (SP ∷ text))

pub returns-clause-found : goal.returns-clause-found
returns-clause-found c =
    let first = strip_prefix_is Decides-eqb c.args.line.now c.args.digits.now
    (Some c.in_ok-strip_prefix.field-0) c.in_ok-strip_prefix.ensures.cases in
    after_digits c.args.digits.now c.in_ok-strip_prefix.field-0.now c.strip_prefix-2.result first
    (strip_prefix_is Decides-eqb c.in_ok-strip_prefix.field-0.now (SP ∷ []) c.strip_prefix-2.result
    c.strip_prefix-2.ensures.cases)
