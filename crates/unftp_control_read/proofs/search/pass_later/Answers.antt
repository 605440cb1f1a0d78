use Rattle.std.proofs.Common.{sym, ◌∙◌, ap}
use Rattle.unftp_control_defs.specs.ComputedReply.{code_of}
use Rattle.unftp_control_read.proofs.SearchLemmas.{line_goes_on, line_ends}
use Rattle.unftp_control_read.proofs.search.pass_later.Goals as goal

pub returns-in-None-clause-steps : goal.returns-in-None-clause-steps
returns-in-None-clause-steps c at =
    let digits = c.in-Some.ensures.cases.1 in
    line_goes_on at (rw digits at c.in-None.ensures.none)

pub returns-in-Some-last_text-clause-steps : goal.returns-in-Some-last_text-clause-steps
returns-in-Some-last_text-clause-steps c at =
    let digits = c.in-Some.ensures.cases.1 in
    line_ends at (ap code_of (sym digits) ∙ sym c.in-Some-code_of.ensures) c.in-Some-last_text.field-0.now
    (rw digits at c.in-Some-last_text.ensures.found)
