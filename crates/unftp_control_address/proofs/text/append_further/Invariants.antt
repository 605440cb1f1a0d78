use Rattle.std.proofs.Common.{◌≡◌, ◌≤◌, ◌++◌, ◌∷◌, decimal, flat_map, take, vec_capacity}
use Rattle.unftp_control_address.proofs.text.append_further.Given as goal

abbrev pub invariant-loop-number : goal.invariant-loop-number
invariant-loop-number l = record {
  items : l.buf.items
      ≡ l.fn.buf.items ++ flat_map (λ n. l.separator ∷ decimal n) (take l.number-index l.numbers);
  capacity : vec_capacity l.fn.buf ≤ vec_capacity l.buf;
}
