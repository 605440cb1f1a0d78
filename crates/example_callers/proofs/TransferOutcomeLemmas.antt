-- What a transfer transferred, by how it ended.
use Rattle.std.proofs.Common.{◌≡◌, ℕ, zero, suc, ◌+◌, Bool, true, false, List, [], ◌∷◌, ◌++◌, bytes_eq, drop, take, refl, sym, ap, ◌∙◌, append_assoc, arith}
use Rattle.std.specs.Prelude.{if◌then◌else◌}
use Rattle.std.proofs.lemmas.List.{take-append-drop}
use Rattle.std.proofs.lemmas.Slice.Eq.{bytes_eq-Decides}
use Rattle.unftp_control_defs.specs.Bytes.{Bytes}
use Rattle.unftp_control_defs.specs.FtpReply.{FtpReply, CodeAndMsg}
use Rattle.unftp_control_serve.specs.Writing.{Begins}
use Rattle.example_callers.specs.DataAnswers.{DataAnswer, Opened, Took, Gave, Closed, received_in, sent_in}
use Rattle.example_callers.specs.Transfers.{TransferOutcome, closing, ends_after, final_reply, with_opening, opening_reply, preceded_by, receiving, sending}
use Rattle.example_callers.specs.declared.transfers.transfer.Ending.{Ending}
use Rattle.example_callers.specs.declared.transfers.transfer.Ending.TheVariants.{Complete, NotOpened, Aborted}

-- the code of the second reply
abbrev second_code : List FtpReply → ℕ
second_code (first ∷ (CodeAndMsg code text ∷ replies)) = code
second_code _ = 0

-- only the complete ending has the reply 226
pub completed : (ending : Ending)
    → opening_reply ∷ final_reply ending ∷ [] ≡ opening_reply ∷ final_reply Complete ∷ []
    → ending ≡ Complete
completed Complete is = refl
completed _ is = absurd (omega (arith, ap second_code is))

-- ---- sending

-- a beginning of the bytes was sent, and all of them at the complete ending
pub record Sends (bytes : Bytes) (outcome : TransferOutcome) : Type 0 where
  pub beginning : Begins bytes outcome.bytes
  pub all : outcome.ending ≡ Complete → outcome.bytes ≡ bytes

sends-nothing : (bytes : Bytes) (ending : Ending) (used : ℕ) → (ending ≡ Complete → ⊥)
    → Sends bytes record { ending = ending; used = used; bytes = [] }
sends-nothing bytes ending used not =
    record { beginning = (bytes, refl); all = λ complete. absurd (not complete) }

sends-closing : (answers : List DataAnswer) → Sends [] (closing answers)
sends-closing (Closed ∷ answers) = record { beginning = ([], refl); all = λ _. refl }
sends-closing _ = record { beginning = ([], refl); all = λ _. refl }

sends-more : (bytes : Bytes) (n : ℕ) (outcome : TransferOutcome) → Sends (drop n bytes) outcome
    → Sends bytes (preceded_by 1 (take n bytes) outcome)
sends-more bytes n outcome later = record {
  beginning = (
    later.beginning.0,
    sym (take-append-drop n bytes) ∙ ap (λ rest. take n bytes ++ rest) later.beginning.1
        ∙ sym (append_assoc (take n bytes) outcome.bytes later.beginning.0),
  );
  all = λ complete. ap (λ rest. take n bytes ++ rest) (later.all complete)
      ∙ take-append-drop n bytes;
}

sends-if : {bytes : Bytes} {outcome : TransferOutcome} (same : Bool) → Sends bytes outcome
    → Sends bytes (if same then outcome else ends_after 0 Aborted)
sends-if true sends = sends
sends-if {bytes} false sends = sends-nothing bytes Aborted 0 (λ is. absurd (cc))

sends : (bytes : Bytes) (answers : List DataAnswer) → Sends bytes (sending bytes answers)
sends [] answers = sends-closing answers
sends (b ∷ bytes) (Took offered (suc n) ∷ answers) = sends-if (bytes_eq offered (b ∷ bytes))
    (sends-more (b ∷ bytes) (suc n) (sending (drop (suc n) (b ∷ bytes)) answers)
    (sends (drop (suc n) (b ∷ bytes)) answers))
sends (b ∷ bytes) _ = sends-nothing (b ∷ bytes) Aborted _ (λ is. absurd (cc))

pub retrieve-sends : (bytes : Bytes) (answers : List DataAnswer)
    → Sends bytes (with_opening (sending bytes) answers)
retrieve-sends bytes (Opened ∷ answers) = let later = sends bytes answers in
    record { beginning = later.beginning; all = later.all }
retrieve-sends bytes _ = sends-nothing bytes NotOpened _ (λ is. absurd (cc))

take-one-more : (n : ℕ) (answer : DataAnswer) (answers : List DataAnswer)
    → take (n + 1) (answer ∷ answers) ≡ answer ∷ take n answers
take-one-more n answer answers = let one_more : n + 1 ≡ suc n = omega (arith) in
    ap (λ n. take n (answer ∷ answers)) one_more

-- the connection took exactly these bytes in the used answers
abbrev Takes : List DataAnswer → TransferOutcome → Type 0
Takes answers outcome = sent_in (take outcome.used answers) ≡ outcome.bytes

closing-takes : (answers : List DataAnswer) → Takes answers (closing answers)
closing-takes (Closed ∷ answers) = refl
closing-takes _ = refl

takes-if : (offered bytes : Bytes) (n : ℕ) (answers : List DataAnswer) (later : TransferOutcome)
    → Takes answers later → (same : Bool) → bytes_eq offered bytes ≡ same
    → Takes (Took offered n ∷ answers)
    (if same then preceded_by 1 (take n bytes) later else ends_after 0 Aborted)
takes-if offered bytes n answers later takes true is =
    ap sent_in (take-one-more later.used (Took offered n) answers)
    ∙ ap (λ more. take n offered ++ more) takes
    ∙ ap (λ bytes. take n bytes ++ later.bytes) ((bytes_eq-Decides offered bytes).0 is)
takes-if offered bytes n answers later takes false is = refl

takes-none : (offered : Bytes) (answers : List DataAnswer) (same : Bool)
    → Takes (Took offered 0 ∷ answers) (ends_after (if same then 1 else 0) Aborted)
takes-none offered answers true = refl
takes-none offered answers false = refl

takes : (bytes : Bytes) (answers : List DataAnswer) → Takes answers (sending bytes answers)
takes [] answers = closing-takes answers
takes (b ∷ bytes) (Took offered (suc n) ∷ answers) = takes-if offered (b ∷ bytes) (suc n) answers
    (sending (drop (suc n) (b ∷ bytes)) answers) (takes (drop (suc n) (b ∷ bytes)) answers)
    (bytes_eq offered (b ∷ bytes)) refl
takes (b ∷ bytes) (Took offered zero ∷ answers) =
    takes-none offered answers (bytes_eq offered (b ∷ bytes))
takes (b ∷ bytes) _ = refl

pub retrieve-takes : (bytes : Bytes) (answers : List DataAnswer)
    → Takes answers (with_opening (sending bytes) answers)
retrieve-takes bytes (Opened ∷ answers) =
    ap sent_in (take-one-more (sending bytes answers).used Opened answers) ∙ takes bytes answers
retrieve-takes bytes _ = refl

-- ---- receiving

-- it gave exactly these bytes in the used answers, and took none
pub record Receives (answers : List DataAnswer) (outcome : TransferOutcome) : Type 0 where
  pub gave : received_in (take outcome.used answers) ≡ outcome.bytes
  pub took : sent_in (take outcome.used answers) ≡ []

receives-closing : (answers : List DataAnswer) → Receives answers (closing answers)
receives-closing (Closed ∷ answers) = record { gave = refl; took = refl }
receives-closing _ = record { gave = refl; took = refl }

receives-more : (piece : Bytes) (answers : List DataAnswer) (later : TransferOutcome)
    → Receives answers later → Receives (Gave piece ∷ answers) (preceded_by 1 piece later)
receives-more piece answers later receives = let more = take-one-more later.used (Gave piece) answers
    in record {
      gave = ap received_in more ∙ ap (λ more. piece ++ more) receives.gave;
      took = ap sent_in more ∙ receives.took;
    }

receives : (answers : List DataAnswer) → Receives answers (receiving answers)
receives (Gave [] ∷ answers) =
    receives-more [] answers (closing answers) (receives-closing answers)
receives (Gave (b ∷ bytes) ∷ answers) =
    receives-more (b ∷ bytes) answers (receiving answers) (receives answers)
receives _ = record { gave = refl; took = refl }

pub store-receives : (answers : List DataAnswer) → Receives answers (with_opening receiving answers)
store-receives (Opened ∷ answers) = let later = receives answers in
    let more = take-one-more (receiving answers).used Opened answers in
    record { gave = ap received_in more ∙ later.gave; took = ap sent_in more ∙ later.took }
store-receives _ = record { gave = refl; took = refl }
