use Rattle.std.proofs.Common.{◌≡◌, ◌++◌, ◌∷◌, take, map, string_bytes}
use Rattle.unftp_control_defs.specs.Bytes.{SP}
use Rattle.unftp_control_commands.proofs.feat.append_features.Given as goal

abbrev pub invariant-loop-feature : goal.invariant-loop-feature
invariant-loop-feature l = map string_bytes l.lines.items
    ≡ map string_bytes l.fn.lines.items ++ map (λ feature. SP ∷ feature.now)
    (take l.feature-index l.features)
