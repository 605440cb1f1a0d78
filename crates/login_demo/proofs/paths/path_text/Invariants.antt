use Rattle.std.proofs.Common.{◌≡◌, ◌∷◌, flat_map, map, string_bytes, take}
use Rattle.login_demo.specs.Walking.{SLASH}
use Rattle.login_demo.proofs.paths.path_text.Given as goal

-- the names so far
abbrev pub invariant-loop-name : goal.invariant-loop-name
invariant-loop-name l = string_bytes l.text ≡ flat_map (λ name. SLASH ∷ name)
    (map (λ name. name.now) (take l.name-index l.names))
