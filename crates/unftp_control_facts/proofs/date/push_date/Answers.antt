use Rattle.std.proofs.Common.{rules}
use Rattle.std.proofs.lemmas.Result.{on_ok_weaker}
use Rattle.unftp_control_facts.specs.Listing.{date_text}
use Rattle.unftp_control_facts.proofs.date.push_date.Goals as goal

pub returns : goal.returns
returns c = on_ok_weaker c.push_civil.result
    (λ same. (
      date_text c.is_recent.result c.to_datetime-civil.result,
      (c.to_datetime-civil.result, search rules, search rules),
      same,
    )) c.push_civil.ensures
