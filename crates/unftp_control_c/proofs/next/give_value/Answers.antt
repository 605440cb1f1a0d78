use Rattle.std.proofs.Common.{◌≡◌, ◌-◌, length, nat_lt, true, arith, refl}
use Rattle.std.proofs.lemmas.Bool.{le-leb, lt-ltb}
use Rattle.unftp_control_c.proofs.PlaceLemmas.{usual_place, usual_some}
use Rattle.unftp_control_c.proofs.next.give_value.Goals as goal

pub returns : goal.returns
returns c = λ pending area.
    let line = c.args.bytes.now in
    let value = c.args.value.now in
    let some : nat_lt 0 (length line - 2 - length value) ≡ true =
    lt-ltb 0 (length line - 2 - length value)
    (usual_some line value c.requires.some c.requires.end) in
    rw (
      usual_place line value c.requires.some c.requires.end,
      some,
      le-leb 0 (length area) (omega arith),
      c.number.ensures,
    ) refl
