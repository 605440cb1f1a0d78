use Rattle.std.proofs.Common.{◌==◌, rules, tests}
use Rattle.std.proofs.lemmas.Iterator.Search.{any_from_yields_List}
use Rattle.std.proofs.lemmas.Iterator.Splits.{YieldsList-from_slice_split}
use Rattle.example_callers.specs.FactList.{SEMICOLON, same_letters}
use Rattle.example_callers.proofs.fact_list.names.Goals as goal

pub returns : goal.returns
returns c =
    any_from_yields_List (λ name. same_letters name c.args.fact.now) _ _ _ c.any.ensures.ran
    (YieldsList-from_slice_split _ (λ byte. byte == SEMICOLON) c.args.list.now c.split.ensures.rest
    c.split.ensures.done c.split.ensures.closure
    (λ x b q k. search (rules, tests)))
    (λ x b q k. search (rules, tests))
