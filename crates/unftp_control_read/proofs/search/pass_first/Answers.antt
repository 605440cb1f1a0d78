use Rattle.std.proofs.Common.{◌∙◌, ap}
use Rattle.unftp_control_read.specs.Reading.{opened_by}
use Rattle.unftp_control_read.proofs.SearchLemmas.{first_malformed, first_whole, first_begins}
use Rattle.unftp_control_read.proofs.search.pass_first.Goals as goal

pub returns-in_default-clause-steps : goal.returns-in_default-clause-steps
returns-in_default-clause-steps c at = first_malformed at c.in_default.ensures

pub returns-in-One-clause-steps : goal.returns-in-One-clause-steps
returns-in-One-clause-steps c at =
    first_whole at (c.in-Some.ensures.2 ∙ ap (opened_by c.in-Some.opening.code) c.in-One.is)

pub returns-in-Several-clause-steps : goal.returns-in-Several-clause-steps
returns-in-Several-clause-steps c at = first_begins at
    (c.in-Some.ensures.2 ∙ ap (opened_by c.in-Some.opening.code) c.in-Several.is)
    c.in-Some.ensures.0
