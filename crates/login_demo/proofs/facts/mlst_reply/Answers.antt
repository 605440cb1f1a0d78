use Rattle.std.proofs.Common.{◌∙◌, ap, unwrap_or}
use Rattle.login_demo.specs.Facts.{facts_known}
use Rattle.login_demo.specs.Walking.{path_text}
use Rattle.login_demo.proofs.FactLemmas.{only_facts_reply}
use Rattle.login_demo.proofs.facts.mlst_reply.Goals as goal

pub returns-in_ok-path-in-Some-clause-ok : goal.returns-in_ok-path-in-Some-clause-ok
returns-in_ok-path-in-Some-clause-ok c =
    let shown = ap (λ path. unwrap_or path c.as_str.result.now) c.new.ensures
    ∙ c.as_str.ensures.value ∙ c.in_ok-path-in-Some.ensures ∙ ap path_text c.names.ensures in
    rw c.in-Some.is
    (only_facts_reply (facts_known c.new-facts.result)
    c.reply-in-Some.result shown c.new-facts.ensures c.reply-in-Some.ensures.ok)
