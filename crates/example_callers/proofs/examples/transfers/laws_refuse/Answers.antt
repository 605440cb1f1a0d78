use Rattle.std.proofs.Common.{◌≡◌, ℕ, List, [], ◌∷◌, length, refl, ap, arith}
use Rattle.example_callers.specs.declared.transfers.transfer.Ending.TheVariants.{Complete, Aborted}
use Rattle.example_callers.proofs.TransferOutcomeLemmas.{completed}
use Rattle.example_callers.proofs.examples.transfers.laws_refuse.Goals as goal

abbrev first_byte : List ℕ → ℕ
first_byte [] = 0
first_byte (b ∷ bytes) = b

pub returns-clause-retrieved : goal.returns-clause-retrieved
returns-clause-retrieved c = record {
  ending = Complete;
  replied = refl;
  beginning = ([], refl);
  all = λ _. refl;
  kept = refl;
}

pub returns-clause-other_bytes : goal.returns-clause-other_bytes
returns-clause-other_bytes c = λ is. absurd (omega (arith, ap first_byte is.beginning.1))

pub returns-clause-a_part : goal.returns-clause-a_part
returns-clause-a_part c = λ is. absurd (omega (arith, ap length (is.all refl)))

pub returns-clause-changed : goal.returns-clause-changed
returns-clause-changed c = λ is. absurd (omega (arith, ap length is.kept))

pub returns-clause-stored : goal.returns-clause-stored
returns-clause-stored c = record {
  ending = Complete;
  replied = refl;
  all = λ _. refl;
  kept = λ not. absurd (not refl);
  none_sent = refl;
}

pub returns-clause-not_stored : goal.returns-clause-not_stored
returns-clause-not_stored c = λ is. absurd (omega (arith, ap first_byte (is.all refl)))

pub returns-clause-emptied : goal.returns-clause-emptied
returns-clause-emptied c = λ is. absurd (omega (
  arith,
  ap length (is.kept (λ completes.
      let same : Aborted ≡ Complete = completed Aborted completes in absurd (cc))),
))

pub returns-clause-sent : goal.returns-clause-sent
returns-clause-sent c = λ is. absurd (omega (arith, ap length is.none_sent))

pub returns-clause-nothing : goal.returns-clause-nothing
returns-clause-nothing c = record { file = refl; no_call = refl; used = refl }

pub returns-clause-a_call : goal.returns-clause-a_call
returns-clause-a_call c = λ is. absurd (omega (arith, ap length is.no_call))

pub returns-clause-one_used : goal.returns-clause-one_used
returns-clause-one_used c = λ is. absurd (omega (arith, is.used))

pub returns-clause-other_file : goal.returns-clause-other_file
returns-clause-other_file c = λ is. absurd (omega (arith, ap length is.file))
