-- Lists of lines that the derived `==` finds equal.
use Rattle.std.proofs.Common.{◌≡◌, ◌↔◌, ℕ, true, List, map, nat_eq, Vec, Global, sym}
use Rattle.std.specs.Cmp.Lexicographic.{pointwise}
use Rattle.std.specs.Cmp.Derive.Mapped.{pointwise-map}
use Rattle.std.specs.Str.{bytes_eq}
use Rattle.std.proofs.lemmas.Slice.Eq.{bytes_eq-Decides, slice_eq-Decides}

pub same_lines : (ks ls : List (Vec ℕ Global))
    → (pointwise (λ (x : Vec ℕ Global) (y : Vec ℕ Global). pointwise nat_eq x.items y.items) ks ls
    ≡ true) ↔
    (map (λ (line : Vec ℕ Global). line.items) ks ≡ map (λ (line : Vec ℕ Global). line.items) ls)
same_lines ks ls = slice_eq-Decides bytes_eq-Decides
    (map (λ (line : Vec ℕ Global). line.items) ks) (map (λ (line : Vec ℕ Global). line.items) ls) _
    (sym (pointwise-map (λ (line : Vec ℕ Global). line.items) bytes_eq ks ls))
