use Rattle.std.proofs.Common.{◌≡◌, fold, map}
use Rattle.login_demo.specs.Walking.{entered}
use Rattle.login_demo.proofs.paths.walk.Given as goal

-- where the names so far lead
abbrev pub invariant-loop-name : goal.invariant-loop-name
invariant-loop-name l =
    map (λ name. name.now) l.names.items
    ≡ fold entered (map (λ name. name.now) l.initial.names.items)
    (map (λ name. name.now) l.yielded)
