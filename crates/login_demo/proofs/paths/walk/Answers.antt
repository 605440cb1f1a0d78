use Rattle.std.proofs.Common.{◌∙◌, ◌==◌, ap, fold, map, lit<}
use Rattle.std.specs.List.{slice_split}
use Rattle.std.proofs.lemmas.Iterator.Splits.{YieldsList-from_str_split}
use Rattle.std.proofs.lemmas.Iterator.Consumers.{YieldsList-end}
use Rattle.login_demo.specs.Walking.{entered}
use Rattle.login_demo.proofs.paths.walk.Goals as goal

pub returns : goal.returns
returns c =
    let t = YieldsList-end (YieldsList-from_str_split 47 c.args.path.now (lit< tt) (cc) (cc) (cc))
    c.loop-name.yielded _ c.loop-name.yielded_by _ _ c.in-None.is c.next.ensures.steps in
    c.loop-name.invariant ∙ ap (fold entered (map (λ name. name.now) c.in_ok-names.names.items)) t.0
    ∙ ap (λ start. fold entered start (slice_split (λ b. b == 47) c.args.path.now))
    c.in_ok-names.ensures
