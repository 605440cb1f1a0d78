-- How much room the text of an exchange needs.
use Rattle.std.proofs.Common.{◌<◌, ◌≤◌, ◌+◌, ℕ, zero, suc, List, [], ◌∷◌, length, take, get_or, map, flat_map, arith, length-append}
use Rattle.unftp_control_defs.specs.Bytes.{Bytes}

-- the texts up to one, and that one, are at most all
pub so_far : {X Y : Type 0} (f : Y → Bytes) (g : X → Y) (xs : List X) (i : ℕ) (d : X)
    → i < length xs
    → length (flat_map f (map g (take i xs))) + length (f (g (get_or xs i d)))
    ≤ length (flat_map f (map g xs))
so_far f g [] i d small = absurd (omega (arith, small))
so_far f g (x ∷ xs) zero d small =
    omega (arith, length-append (f (g x)) (flat_map f (map g xs)))
so_far f g (x ∷ xs) (suc i) d small = omega (
  arith,
  length-append (f (g x)) (flat_map f (map g xs)),
  length-append (f (g x)) (flat_map f (map g (take i xs))),
  so_far f g xs i d (omega (arith, small)),
)
