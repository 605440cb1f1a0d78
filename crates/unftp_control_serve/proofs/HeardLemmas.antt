-- What was heard so far.
use Rattle.std.proofs.Common.{List, [], ◌++◌, sym, ap, ◌∙◌, append_assoc}
use Rattle.std.proofs.lemmas.List.{append-nil}
use Rattle.unftp_control_serve.specs.Writing.{Begins}

pub Begins-trans : {A : Type 0} (a b c : List A) → Begins a b → Begins b c → Begins a c
Begins-trans a b c p q = (
  q.0 ++ p.0,
  p.1 ∙ ap (λ t. t ++ p.0) q.1 ∙ append_assoc c q.0 p.0,
)

pub Begins-refl : {A : Type 0} (a : List A) → Begins a a
Begins-refl a = ([], sym (append-nil a))
