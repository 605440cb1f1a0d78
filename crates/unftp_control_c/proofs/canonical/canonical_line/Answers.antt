use Rattle.std.proofs.Common.{Err, refl, sym, ap, subst, ◌∙◌}
use Rattle.unftp_control_message.specs.CommandMeaning.{command_of}
use Rattle.unftp_control_defs.specs.Canonical.{canonical_line}
use Rattle.unftp_control_defs.proofs.CommandLineLemmas.{HasLine-outcome}
use Rattle.unftp_control_c.specs.Numbers.{kind_status}
use Rattle.unftp_control_c.specs.CanonicalLines.{IsCanonical}
use Rattle.unftp_control_c.proofs.CanonicalLineLemmas.{refused_line, unwritten_line}
use Rattle.unftp_control_c.proofs.canonical.canonical_line.Goals as goal

pub returns-in-Err-clause-canonical : goal.returns-in-Err-clause-canonical
returns-in-Err-clause-canonical c =
    subst (λ status. IsCanonical c.args.line.now (Err status))
    (sym (c.kind_status.ensures ∙ ap kind_status c.kind.ensures))
    (refused_line c.args.line.now c.in-Err.refused c.in-Err.ensures.answer c.in-Err.ensures.memory)

pub returns-in-Ok-written-clause-canonical : goal.returns-in-Ok-written-clause-canonical
returns-in-Ok-written-clause-canonical c =
    let command = command_of c.in-Ok.command in
    let wrote = c.in-Ok-written.ensures in (
      command,
      c.in-Ok.ensures.answer,
      HasLine-outcome (canonical_line command) command wrote.line wrote.read_back,
      rw (wrote.ok, c.new-buf.ensures.items) refl,
    )

pub returns-in-Err-written-clause-canonical : goal.returns-in-Err-written-clause-canonical
returns-in-Err-written-clause-canonical c =
    subst (λ status. IsCanonical c.args.line.now (Err status)) (sym c.line_status.ensures)
    (unwritten_line c.args.line.now c.in-Err-written.error c.in-Ok.ensures.answer
    (λ has_line. (c.in-Err-written.ensures.has_line has_line).0)
    (λ e. c.in-Err-written.ensures.memory (ap (λ why. Err why) e)))
