-- What the calls of a transfer came to.
use Rattle.std.specs.Prelude.{◌≡◌, ◌⊎◌, ℕ, List, [], ◌++◌, drop, length, take}
use Rattle.unftp_control_defs.specs.Bytes.{Bytes}
use Rattle.example_callers.specs.DataAnswers.{DataAnswer}
use Rattle.example_callers.specs.Transfers.{TransferOutcome, transfer_outcome, preceded_by, receiving, with_opening}
use Rattle.example_callers.specs.declared.transfers.transfer.Ending.{Ending}
use Rattle.example_callers.specs.declared.transfers.transfer.Transfer.{Transfer}
use Rattle.example_callers.specs.declared.transfers.transfer.Transfer.TheVariants.{Retrieve, Store}

-- It answered so, each answer is that to a call which the transfer makes, and whatever it answers
-- later, this is the outcome.
pub record CameTo (outcome : List DataAnswer → TransferOutcome) (before after : List DataAnswer)
    (ending : Ending) (bytes : Bytes) : Type 0 where
  pub answers : List DataAnswer
  pub answered : after ≡ before ++ answers
  pub came_to : (later : List DataAnswer) → outcome (answers ++ later)
      ≡ record { ending = ending; used = length answers; bytes = bytes }

-- It answered so, these bytes were transferred, and the rest is still to come.
pub record UnderWay (outcome : List DataAnswer → TransferOutcome) (before after : List DataAnswer)
    (bytes : Bytes) (rest : List DataAnswer → TransferOutcome) : Type 0 where
  pub answers : List DataAnswer
  pub answered : after ≡ before ++ answers
  pub goes_on : (later : List DataAnswer) → outcome (answers ++ later)
      ≡ preceded_by (length answers) bytes (rest later)

module _ (before after : List DataAnswer) where
  -- a transfer of these bytes was made
  abbrev pub WasMade : Transfer → Bytes → Type 0
  WasMade transfer bytes =
      (ending : Ending) × (moved : Bytes) × CameTo
      (transfer_outcome transfer bytes) before after ending moved

  -- STOR received some bytes, and was not at its end.
  abbrev pub IsCutOff : Type 0
  IsCutOff = (received : Bytes) × ¬ (received ≡ [])
      × UnderWay (with_opening receiving) before after received receiving

  -- For what memory ran out: for the reply after a transfer that was made; or at STOR for the bytes
  -- before the offset, where there are some, before any call, or for some that were received.
  abbrev pub RanOut : Transfer → ℕ → Bytes → Type 0
  RanOut Retrieve offset file = WasMade Retrieve (drop offset file)
  RanOut Store offset file = WasMade Store (drop offset file)
      ⊎ (IsCutOff ⊎ (¬ (take offset file ≡ []) × (after ≡ before)))
