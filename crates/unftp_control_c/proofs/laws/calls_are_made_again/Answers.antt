-- A call that gave no line is made again.
use Rattle.std.proofs.Common.{◌≡◌, ◌<◌, ◌≤◌, false, ◌⊎◌, length, refl, ap, inl, inr, arith}
use Rattle.std.proofs.lemmas.Bool.{le-leb}
use Rattle.std.proofs.lemmas.Bool.Decides.{nat_tests}
use Rattle.unftp_control_defs.specs.Bytes.{Bytes}
use Rattle.unftp_control_c.specs.declared.status.Status.TheVariants.{NoRoom, OutOfMemory}
use Rattle.unftp_control_c.specs.Next.{Leaves, Left, given_for, needed_room, written_for}
use Rattle.unftp_control_c.specs.Numbers.{status_number}
use Rattle.unftp_control_c.specs.Taking.{Caller, after_call, caller_call, gives_none}
use Rattle.unftp_control_c.proofs.CallLemmas.{NextLeft, asks, gave, no_room, gives_some, left_so}
use Rattle.unftp_control_c.proofs.RoomLemmas.{written_needs}
use Rattle.unftp_control_c.proofs.laws.calls_are_made_again.Goals as goal

nothing_lost : (caller : Caller) (area : Bytes) (left : Left) → NextLeft
    (caller_call caller area) left
    → (left.result ≡ status_number NoRoom) ⊎ (left.result ≡ status_number OutOfMemory)
    → after_call caller left ≡ caller
nothing_lost caller area _ (asks n ok found) (inl is) = absurd (omega (arith, is))
nothing_lost caller area _ (asks n ok found) (inr is) = absurd (omega (arith, is))
nothing_lost caller area _ (gave first room) (inl is) = absurd ((gives_some _ first.some).1 is)
nothing_lost caller area _ (gave first room) (inr is) = absurd ((gives_some _ first.some).2 is)
nothing_lost caller area _ _ is = refl

module _ (caller : Caller) (area wider : Bytes) (again : Left) where
  in_time : (left : Left) → NextLeft (caller_call caller area) left → left.result
      ≡ status_number NoRoom
      → needed_room left.line ≤ length wider
      → Leaves (caller_call caller wider) again
      → (again.result ≡ status_number OutOfMemory) ⊎ (gives_none again.result ≡ false)
  in_time _ (no_room first small) is wide (inr ran_out) = inl (ap (λ l. l.result) ran_out.1)
  in_time _ (no_room first small) is wide (inl next) =
      let room = le-leb (length (written_for first.line (given_for first.event))) (length wider)
      (omega (arith, wide, written_needs 0 first.line (given_for first.event))) in
      inr (rw (next, first.leaves wider, room) first.some)
  in_time _ (gave first room) is wide leaves = absurd ((gives_some _ first.some).1 is)
  in_time _ _ is wide leaves = absurd (omega (arith, is))

too_small : (caller : Caller) (area : Bytes) (left : Left) → NextLeft (caller_call caller area) left
    → left.result ≡ status_number NoRoom → length area < needed_room left.line
too_small caller area _ (no_room first small) is =
    let needs = written_needs 0 first.line (given_for first.event) in
    grind (arith, nat_tests, small, needs)
too_small caller area _ (gave first room) is = absurd ((gives_some _ first.some).1 is)
too_small caller area _ (asks n ok found) is = absurd (omega (arith, is))
too_small caller area _ _ is = absurd (omega (arith, is))

-- the law
pub returns : goal.returns
returns c = record {
  kept = λ caller area left leaves is.
      nothing_lost caller area left (left_so (caller_call caller area) left leaves) is;
  too_little = λ caller area left leaves is.
      too_small caller area left (left_so (caller_call caller area) left leaves) is;
  room = λ caller area wider left again leaves is wide later.
      in_time caller area wider again left (left_so (caller_call caller area) left leaves) is wide
      later;
}
