-- Ways through directories, name by name.
use Rattle.std.proofs.Common.{◌≡◌, ◌≢◌, ◌&&◌, map, List, [], ◌∷◌, ◌++◌, Bool, false, bytes_eq, codes, refl, ap}
use Rattle.std.specs.Cmp.Lexicographic.{pointwise}
use Rattle.std.proofs.lemmas.Bool.{false_from_ne_true}
use Rattle.std.proofs.lemmas.Slice.Eq.{bytes_eq-Decides}
use Rattle.unftp_control_defs.specs.Bytes.{Bytes}
use Rattle.login_demo.specs.Walking.{entered}

differs : (name text : Bytes) → name ≢ text → bytes_eq name text ≡ false
differs name text h =
    false_from_ne_true (bytes_eq name text) (λ same. h ((bytes_eq-Decides name text).0 same))

-- a name of its own leads one down
pub entered-name : (names : List Bytes) {name : Bytes} → name ≢ [] → name ≢ codes "."
    → name ≢ codes ".." → entered names name ≡ names ++ name ∷ []
entered-name names {name} a b d =
    rw (differs name [] a, differs name (codes ".") b, differs name (codes "..") d) refl

pub pointwise-map : {A B : Type 0} (E : B → B → Bool) (f : A → B) (xs ys : List A)
    → pointwise (λ x y. E (f x) (f y)) xs ys ≡ pointwise E (map f xs) (map f ys)
pointwise-map E f [] [] = refl
pointwise-map E f [] (y ∷ ys) = refl
pointwise-map E f (x ∷ xs) [] = refl
pointwise-map E f (x ∷ xs) (y ∷ ys) = ap (λ b. E (f x) (f y) && b) (pointwise-map E f xs ys)
