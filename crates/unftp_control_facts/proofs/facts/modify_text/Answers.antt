use Rattle.std.proofs.Common.{rules}
use Rattle.unftp_control_facts.proofs.YearLemmas.{time_text-none, time_text-some}
use Rattle.unftp_control_facts.proofs.facts.modify_text.Goals as goal

pub returns-then-year-lt0 : goal.returns-then-year-lt0
returns-then-year-lt0 c =
    let e = c.to_datetime-utc.ensures in
    let none = time_text-none c.to_datetime-utc.result.date.year c.to_datetime-utc.result in
    (c.to_datetime-utc.result, search rules, search (rules, none))

pub returns : goal.returns
returns c =
    let some = time_text-some c.to_datetime-utc.result.date.year c.to_datetime-utc.result in
    (c.to_datetime-utc.result, search rules, search (rules, some))
