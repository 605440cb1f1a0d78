use Rattle.std.proofs.Common.{◌≡◌, ℕ, ◌+◌, ◌-◌, ◌*◌, List, ap, ◌∙◌, arith, drop, take}
use Rattle.unftp_control_facts.proofs.date.month_name.Goals as goal

three : (at : ℕ) → at + 3 - at ≡ 3
three at = omega arith

same_part : (n month : ℕ) (names : List ℕ) → n ≡ month
    → take (3 * (n - 1) + 3 - 3 * (n - 1)) (drop (3 * (n - 1)) names)
    ≡ take 3 (drop (3 * (month - 1)) names)
same_part n month names same =
    ap (λ count. take count (drop (3 * (n - 1)) names)) (three (3 * (n - 1)))
    ∙ ap (λ m. take 3 (drop (3 * (m - 1)) names)) same

pub returns : goal.returns
returns c = same_part c.from.result c.args.month _ c.from.ensures
