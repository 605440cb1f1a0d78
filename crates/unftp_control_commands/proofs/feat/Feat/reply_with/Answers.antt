use Rattle.std.proofs.Common.{◌∷◌, List, ℕ, Bor, rules}
use Rattle.std.proofs.lemmas.Simd.{map-map}
use Rattle.unftp_control_defs.specs.Bytes.{SP}
use Rattle.unftp_control_commands.proofs.feat.Feat.reply_with.Goals as goal

pub returns-clause-ok : goal.returns-clause-ok
returns-clause-ok c =
    let spaced = map-map (λ (name : List ℕ). SP ∷ name) (λ (feature : Bor (List ℕ)). feature.now)
    c.args.features.now in
    search (rules, spaced)
