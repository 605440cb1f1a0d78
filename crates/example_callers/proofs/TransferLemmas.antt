-- A transfer, call by call.
use Rattle.std.proofs.Common.{◌≡◌, ℕ, zero, suc, ◌+◌, ◌<◌, true, List, [], ◌∷◌, ◌++◌, bytes_eq, drop, length, take, refl, sym, ap, ◌∙◌, append_assoc, length-append, arith}
use Rattle.std.proofs.lemmas.List.{append-nil}
use Rattle.std.proofs.lemmas.Slice.Eq.{bytes_eq-Decides}
use Rattle.unftp_control_defs.specs.Bytes.{Bytes}
use Rattle.example_callers.specs.DataAnswers.{DataAnswer, Opened, Took, Gave, ReceiveFailed}
use Rattle.example_callers.specs.CameTo.{CameTo, UnderWay, IsCutOff}
use Rattle.example_callers.specs.Transfers.{TransferOutcome, closing, ends_after, with_opening, preceded_by, receiving, sending}
use Rattle.example_callers.specs.declared.transfers.transfer.Ending.{Ending}
use Rattle.example_callers.specs.declared.transfers.transfer.Ending.TheVariants.{Aborted}

pub opened : (transfer : List DataAnswer → TransferOutcome) (before now : List DataAnswer)
    → now ≡ before ++ Opened ∷ [] → UnderWay (with_opening transfer) before now [] transfer
opened transfer before now is =
    record { answers = Opened ∷ []; answered = is; goes_on = λ later. refl }

-- it ends at one answer
pub ended : {outcome : List DataAnswer
    → TransferOutcome} {before : List DataAnswer} {ending : Ending}
    (after : List DataAnswer) (answer : DataAnswer) → after ≡ before ++ answer ∷ []
    → ((later : List DataAnswer) → outcome (answer ∷ later) ≡ ends_after 1 ending)
    → CameTo outcome before after ending []
ended after answer is ends = record { answers = answer ∷ []; answered = is; came_to = ends }

module _ {start : List DataAnswer → TransferOutcome} {before now : List DataAnswer} {bytes : Bytes}
    {rest : List DataAnswer → TransferOutcome} (s : UnderWay start before now bytes rest) where
  -- with one answer more
  pub one_more : {rest' : List DataAnswer → TransferOutcome} (now' : List DataAnswer)
      (answer : DataAnswer)
      (piece : Bytes) → now' ≡ now ++ answer ∷ []
      → ((later : List DataAnswer) → rest (answer ∷ later) ≡ preceded_by 1 piece (rest' later))
      → UnderWay start before now' (bytes ++ piece) rest'
  one_more {rest'} now' answer piece is goes = record {
    answers = s.answers ++ answer ∷ [];
    answered = is ∙ ap (λ answers. answers ++ answer ∷ []) s.answered
        ∙ append_assoc before s.answers (answer ∷ []);
    goes_on = λ later.
        let outcome : TransferOutcome = rest' later in
        let used : (outcome.used + 1) + length s.answers
        ≡ outcome.used + length (s.answers ++ answer ∷ []) =
        omega (arith, length-append s.answers (answer ∷ [])) in
        let came : TransferOutcome = preceded_by (length s.answers) bytes
        (preceded_by 1 piece outcome) in
        ap start (append_assoc s.answers (answer ∷ []) later)
        ∙ s.goes_on (answer ∷ later)
        ∙ ap (preceded_by (length s.answers) bytes) (goes later)
        ∙ ap (λ used. record came { used = used }) used
        ∙ ap (λ bytes. record {
          ending = outcome.ending;
          used = outcome.used + length (s.answers ++ answer ∷ []);
          bytes = bytes;
        }) (sym (append_assoc bytes piece outcome.bytes));
  }

  -- what it began with, after one answer more
  pub heard_more : (now' : List DataAnswer) (answer : DataAnswer) → now' ≡ now ++ answer ∷ []
      → (left : List DataAnswer) × (now' ≡ before ++ left)
  heard_more now' answer is = (
    s.answers ++ answer ∷ [],
    is ∙ ap (λ answers. answers ++ answer ∷ []) s.answered
        ∙ append_assoc before s.answers (answer ∷ []),
  )

  -- with what the rest came to
  pub came_on : {after : List DataAnswer} {ending : Ending} → CameTo rest now after ending []
      → CameTo start before after ending bytes
  came_on {after} {ending} came = record {
    answers = s.answers ++ came.answers;
    answered = came.answered ∙ ap (λ answers. answers ++ came.answers) s.answered
        ∙ append_assoc before s.answers came.answers;
    came_to = λ later.
        let used : length came.answers + length s.answers ≡ length (s.answers ++ came.answers) =
        omega (arith, length-append s.answers came.answers) in
        let outcome : ℕ → Bytes → TransferOutcome =
        λ used bytes. record { ending = ending; used = used; bytes = bytes } in
        ap start (append_assoc s.answers came.answers later)
        ∙ s.goes_on (came.answers ++ later)
        ∙ ap (preceded_by (length s.answers) bytes) (came.came_to later)
        ∙ (λ i. outcome (used i) (append-nil bytes i));
  }

-- ---- sending

offered : (bytes : Bytes) → bytes_eq bytes bytes ≡ true
offered bytes = (bytes_eq-Decides bytes bytes).1 refl

pub took : (rest : Bytes) (n : ℕ) → 0 < length rest → 0 < n → (later : List DataAnswer)
    → sending rest (Took rest n ∷ later) ≡ preceded_by 1 (take n rest) (sending (drop n rest) later)
took [] n some more later = absurd (omega (arith, some))
took (b ∷ rest) zero some more later = absurd (omega (arith, more))
took (b ∷ rest) (suc n) some more later = rw (offered (b ∷ rest)) refl

took_none : (rest : Bytes) → 0 < length rest → (later : List DataAnswer)
    → sending rest (Took rest 0 ∷ later) ≡ ends_after 1 Aborted
took_none [] some later = absurd (omega (arith, some))
took_none (b ∷ rest) some later = rw (offered (b ∷ rest)) refl

-- some of the bytes were sent, and the rest is to be sent
pub record Retrieving (bytes rest : Bytes) (before now : List DataAnswer) : Type 0 where
  pub so_far : Bytes
  pub goes_on : UnderWay (with_opening (sending bytes)) before now so_far (sending rest)

pub sent_more : {bytes rest : Bytes} {before now : List DataAnswer} (n : ℕ)
    → Retrieving bytes rest before now → 0 < length rest → 0 < n
    → (now' : List DataAnswer) → now' ≡ now ++ Took rest n ∷ []
    → Retrieving bytes (drop n rest) before now'
sent_more {rest = rest} n so some more now' answered = record {
  so_far = so.so_far ++ take n rest;
  goes_on = one_more so.goes_on now' (Took rest n) (take n rest) answered (took rest n some more);
}

-- what a transfer came to that ends so
abbrev Sent : Bytes → List DataAnswer → List DataAnswer → Ending → Type 0
Sent bytes before after ending =
    (sent : Bytes) × CameTo (with_opening (sending bytes)) before after ending sent

module _ {bytes : Bytes} {before now : List DataAnswer} where
  pub sent_all : (rest : Bytes) → Retrieving bytes rest before now → length rest ≡ 0
      → {after : List DataAnswer} {ending : Ending} → CameTo closing now after ending []
      → Sent bytes before after ending
  sent_all [] so none came = (so.so_far, came_on so.goes_on came)
  sent_all (b ∷ rest) so none came = absurd (omega (arith, none))

  pub sent_part : (rest : Bytes) → Retrieving bytes rest before now → 0 < length rest
      → {after : List DataAnswer} → after ≡ now ++ Took rest 0 ∷ [] → Sent bytes before after Aborted
  sent_part rest so some is =
      (so.so_far, came_on so.goes_on (ended _ (Took rest 0) is (took_none rest some)))

-- ---- receiving

-- so much was received and stored
pub record Storing (before now : List DataAnswer) (stored stored' : Bytes) : Type 0 where
  pub so_far : Bytes
  pub were_stored : stored' ≡ stored ++ so_far
  pub goes_on : UnderWay (with_opening receiving) before now so_far receiving

-- what was stored is what a transfer came to that ends so
abbrev Stored : List DataAnswer → List DataAnswer → Bytes → Bytes → Ending → Type 0
Stored before after stored stored' ending = (received : Bytes)
    × (stored' ≡ stored ++ received)
    × CameTo (with_opening receiving) before after ending received

module _ {before now : List DataAnswer} {stored stored' : Bytes}
    (so : Storing before now stored stored') (now' : List DataAnswer) where
  pub stored_all : {after : List DataAnswer} {ending : Ending} → now' ≡ now ++ Gave [] ∷ []
      → CameTo closing now' after ending [] → Stored before after stored stored' ending
  stored_all is came = (
    so.so_far ++ [],
    so.were_stored ∙ ap (λ bytes. stored ++ bytes) (sym (append-nil so.so_far)),
    came_on (one_more so.goes_on {rest' = closing} now' (Gave []) [] is (λ later. refl)) came,
  )

  pub stored_part : now' ≡ now ++ ReceiveFailed ∷ [] → Stored before now' stored stored' Aborted
  stored_part is = (
    so.so_far,
    so.were_stored,
    came_on so.goes_on (ended now' ReceiveFailed is (λ later. refl)),
  )

  received_more : (piece : Bytes) → 0 < length piece → now' ≡ now ++ Gave piece ∷ []
      → UnderWay (with_opening receiving) before now' (so.so_far ++ piece) receiving
  received_more [] some is = absurd (omega (arith, some))
  received_more (b ∷ piece) some is =
      one_more so.goes_on now' (Gave (b ∷ piece)) (b ∷ piece) is (λ later. refl)

  pub stored_more : (piece : Bytes) → 0 < length piece → now' ≡ now ++ Gave piece ∷ []
      → {stored'' : Bytes} → stored'' ≡ stored' ++ piece → Storing before now' stored stored''
  stored_more piece some is more = record {
    so_far = so.so_far ++ piece;
    were_stored = more ∙ ap (λ stored. stored ++ piece) so.were_stored
        ∙ append_assoc stored so.so_far piece;
    goes_on = received_more piece some is;
  }

  pub cut_off : (piece : Bytes) → 0 < length piece → now' ≡ now ++ Gave piece ∷ []
      → IsCutOff before now'
  cut_off piece some is = (
    so.so_far ++ piece,
    λ none. absurd (omega (arith, some, ap length none, length-append so.so_far piece)),
    received_more piece some is,
  )
