use Rattle.std.proofs.Common.{◌≡◌, ◌≢◌, ℕ, List, [], ◌∷◌, ◌++◌, inl, inr, length, refl, sym, ap, subst, ◌∙◌, take, codes, arith}
use Rattle.std.proofs.lemmas.List.{append-nil}
use Rattle.unftp_control_defs.specs.Bytes.{Bytes}
use Rattle.example_callers.specs.DataAnswers.{DataAnswer, Opened, Gave, ReceiveFailed}
use Rattle.example_callers.specs.CameTo.{CameTo, UnderWay, RanOut}
use Rattle.example_callers.specs.TransferExamples.{abc, all_received}
use Rattle.example_callers.specs.Transfers.{TransferOutcome, receiving, with_opening}
use Rattle.example_callers.specs.declared.transfers.transfer.Ending.{Ending}
use Rattle.example_callers.specs.declared.transfers.transfer.Ending.TheVariants.{Complete}
use Rattle.example_callers.specs.declared.transfers.transfer.Transfer.TheVariants.{Store}
use Rattle.example_callers.proofs.TransferLemmas.{cut_off, opened}
use Rattle.example_callers.proofs.examples.transfers.memory_runs_out_so.Goals as goal

used_all : (outcome : List DataAnswer → TransferOutcome) (after later : List DataAnswer)
    (ending : Ending)
    (bytes : Bytes) → CameTo outcome [] after ending bytes
    → (outcome (after ++ later)).used ≡ length after
used_all outcome after later ending bytes came =
    subst (λ answers. (outcome (answers ++ later)).used ≡ length answers) (sym came.answered)
    (ap (λ outcome. outcome.used) (came.came_to later))

received_all : (after : List DataAnswer) (bytes : Bytes)
    → UnderWay (with_opening receiving) [] after bytes receiving
    → (with_opening receiving (after ++ [])).bytes ≡ bytes
received_all after bytes goes =
    subst (λ answers. (with_opening receiving (answers ++ [])).bytes ≡ bytes) (sym goes.answered)
    (ap (λ outcome. outcome.bytes) (goes.goes_on []) ∙ append-nil bytes)

has_room : (after later : List DataAnswer) (offset : ℕ) (file : Bytes) → take offset file ≡ []
    → (with_opening receiving (after ++ later)).used ≢ length after
    → (with_opening receiving (after ++ [])).bytes ≡ [] → RanOut [] after Store offset file → ⊥
has_room after later offset file none more nothing (inl made) =
    more (used_all (with_opening receiving) after later made.0 made.1 made.2)
has_room after later offset file none more nothing (inr (inl cut)) =
    cut.1 (sym (received_all after cut.0 cut.2) ∙ nothing)
has_room after later offset file none more nothing (inr (inr kept)) = kept.0 none

pub returns-clause-kept : goal.returns-clause-kept
returns-clause-kept c = inr (inr (λ none. absurd (omega (arith, ap length none)), refl))

pub returns-clause-empty : goal.returns-clause-empty
returns-clause-empty c =
    has_room [] (Opened ∷ []) 0 abc refl (λ is. absurd (omega (arith, is))) refl

pub returns-clause-retrieving : goal.returns-clause-retrieving
returns-clause-retrieving c = λ made.
    absurd (omega (arith, used_all _ [] (Opened ∷ []) made.0 made.1 made.2))

pub returns-clause-received : goal.returns-clause-received
returns-clause-received c = inr (inl (cut_off {now = Opened ∷ []} {stored = []} {stored' = []}
    (record { so_far = []; were_stored = refl; goes_on = opened receiving [] (Opened ∷ []) refl })
    (Opened ∷ Gave abc ∷ []) abc (omega arith) refl))

pub returns-clause-opened : goal.returns-clause-opened
returns-clause-opened c = has_room (Opened ∷ []) (ReceiveFailed ∷ []) 0 [] refl
    (λ is. absurd (omega (arith, is))) refl

pub returns-clause-reply : goal.returns-clause-reply
returns-clause-reply c = inl (
  Complete,
  codes "xyz",
  record { answers = all_received; answered = refl; came_to = λ later. refl },
)
