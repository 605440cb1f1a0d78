use Rattle.std.proofs.Common.{◌∙◌, ap, map, bytes_eq}
use Rattle.std.specs.Cmp.Lexicographic.{pointwise}
use Rattle.login_demo.proofs.PathLemmas.{pointwise-map}
use Rattle.login_demo.proofs.tree.Entry.has_names.Goals as goal

pub returns : goal.returns
returns c =
    c.eq.ensures ∙ pointwise-map bytes_eq (λ name. name.now) c.names.result.now c.args.names.now
    ∙ ap (λ names. pointwise bytes_eq names (map (λ name. name.now) c.args.names.now))
    c.names.ensures
