-- The laws of sessions with transfers.
use Rattle.std.proofs.Common.{rules, ◌≡◌, None, ℕ, ◌+◌, ◌-◌, Bool, true, false, List, [], ◌∷◌, ◌++◌, drop, length, nat_le, take, refl, sym, ap, subst, ◌∙◌, arith}
use Rattle.std.specs.Prelude.{if◌then◌else◌}
use Rattle.unftp_control_defs.specs.Bytes.{Bytes, LF}
use Rattle.unftp_control_defs.proofs.LackLemmas.{Lacks-test, lacks}
use Rattle.unftp_control_defs.specs.Events.{FtpEvent, Command, Refused}
use Rattle.unftp_control_defs.specs.FtpCommand as line
use Rattle.unftp_control_defs.specs.FtpReply.{FtpReply, CodeAndMsg, HasThreeDigits, IsReadable}
use Rattle.unftp_control_defs.specs.Turns.{GivesExchanges, SaysOnly, is_preliminary_reply}
use Rattle.example_callers.specs.DataAnswers.{DataAnswer, received_in, sent_in}
use Rattle.example_callers.specs.TransferLaws.{AtEvent, ComesBack, Retrieves, Stores, TransfersNothing, answers_for, state_after_event}
use Rattle.example_callers.specs.Transfers.{TransferOutcome, TransferState, final_reply, restart_reply, beyond_end_reply, first_reply, with_opening, opening_reply, receiving, sending, stored, transfer_of, transfers_law}
use Rattle.example_callers.specs.declared.transfers.transfer.Ending.{Ending}
use Rattle.example_callers.specs.declared.transfers.transfer.Ending.TheVariants.{Complete}
use Rattle.example_callers.proofs.TransferOutcomeLemmas.{completed, retrieve-sends, retrieve-takes, store-receives}

abbrev outcome_of_retr : List DataAnswer → TransferState → TransferOutcome
outcome_of_retr answers s = with_opening (sending (drop s.offset s.file)) (drop s.used answers)

abbrev outcome_of_stor : List DataAnswer → TransferState → TransferOutcome
outcome_of_stor answers s = with_opening receiving (drop s.used answers)

pub retrieves : (answers : List DataAnswer) (s : TransferState) (path : Bytes)
    → AtEvent Retrieves answers s (Command (line.Retr path))
retrieves answers s path =
    let outcome : TransferOutcome = outcome_of_retr answers s in
    let rest = drop s.used answers in
    let sends = retrieve-sends (drop s.offset s.file) rest in
    let used : (s.used + outcome.used) - s.used ≡ outcome.used = omega arith in
    let sent : sent_in (take ((s.used + outcome.used) - s.used) rest) ≡ outcome.bytes =
    ap (λ n. sent_in (take n rest)) used ∙ retrieve-takes (drop s.offset s.file) rest in
    record {
      ending = outcome.ending;
      replied = refl;
      beginning = (
        sends.beginning.0,
        sends.beginning.1 ∙ ap (λ bytes. bytes ++ sends.beginning.0) (sym sent),
      );
      all = λ completes. sent ∙ sends.all (completed outcome.ending completes);
      kept = refl;
    }

stored-else : (offset : ℕ) (file received : Bytes) (ending : Ending) → (ending ≡ Complete → ⊥)
    → stored offset file ending received ≡ file
stored-else offset file received Complete not = absurd (not refl)
stored-else offset file received _ not = refl

pub stores : (answers : List DataAnswer) (s : TransferState) (path : Bytes)
    → AtEvent Stores answers s (Command (line.Stor path))
stores answers s path =
    let outcome : TransferOutcome = outcome_of_stor answers s in
    let rest = drop s.used answers in
    let receives = store-receives rest in
    let used : (s.used + outcome.used) - s.used ≡ outcome.used = omega arith in
    record {
      ending = outcome.ending;
      replied = refl;
      all = λ completes. let complete = completed outcome.ending completes in
          ap (λ ending. stored s.offset s.file ending outcome.bytes) complete
          ∙ ap (λ bytes. take s.offset s.file ++ bytes)
          (sym (ap (λ n. received_in (take n rest)) used ∙ receives.gave));
      kept = λ not. stored-else s.offset s.file outcome.bytes outcome.ending
          (λ complete. not (ap (λ ending. opening_reply ∷ final_reply ending ∷ []) complete));
      none_sent = ap (λ n. sent_in (take n rest)) used ∙ receives.took;
    }

pub comes_back : (answers : List DataAnswer) (s : TransferState) (to from : Bytes)
    → ComesBack answers s to from
comes_back answers s to from = λ at_start was_stored was_retrieved.
    let kept = stores answers s to in
    let stored : TransferState = state_after_event answers s (Command (line.Stor to)) in
    let back = retrieves answers stored from in
    back.all was_retrieved ∙ kept.all was_stored
    ∙ ap (λ offset. take offset s.file ++ received_in (answers_for answers s (Command (line.Stor to))))
    at_start

pub transfers_nothing : (answers : List DataAnswer) (s : TransferState) (event : FtpEvent)
    → transfer_of event ≡ None → AtEvent TransfersNothing answers s event
transfers_nothing answers s event none = let same : s.used - s.used ≡ 0 = omega arith in rw none (
    record { file = refl; no_call = ap (λ n. take n (drop s.used answers)) same; used = refl })

-- ---- each reply

-- what holds of each first and each final reply holds of all
module _ (P : FtpReply → Type 0) (first : (end : ℕ) (event : FtpEvent) → P (first_reply end event))
    (final : (ending : Ending) → P (final_reply ending)) where
  pub says-only : (answers : List DataAnswer) → SaysOnly P (transfers_law answers)
  says-only answers s (Command (line.Retr path)) = (
    first (length s.file) (Command (line.Retr path)),
    (final (outcome_of_retr answers s).ending, tt),
  )
  says-only answers s (Command (line.Stor path)) = (
    first (length s.file) (Command (line.Stor path)),
    (final (outcome_of_stor answers s).ending, tt),
  )
  says-only answers s (Command command) = (first (length s.file) (Command command), tt)
  says-only answers s (Refused fault) = (first (length s.file) (Refused fault), tt)

sound : (reply : FtpReply) (code : ℕ) (text : Bytes) → reply ≡ CodeAndMsg code text
    → HasThreeDigits code → lacks LF text ≡ true → IsReadable reply
sound reply code text is digits lacks =
    subst IsReadable (sym is) (digits, Lacks-test LF text lacks)

rest-sound : (fits : Bool) → IsReadable (if fits then restart_reply else beyond_end_reply)
rest-sound true = sound restart_reply 350 _ refl (search rules) refl
rest-sound false = sound beyond_end_reply 501 _ refl (search rules) refl

first-sound : (end : ℕ) (event : FtpEvent) → IsReadable (first_reply end event)
first-sound end (Command (line.Rest to)) = rest-sound (nat_le to end)
first-sound end (Command command) =
    sound (first_reply end (Command command)) _ _ refl (search rules) refl
first-sound end (Refused fault) =
    sound (first_reply end (Refused fault)) 500 _ refl (search rules) refl

final-sound : (ending : Ending) → IsReadable (final_reply ending)
final-sound Complete = sound (final_reply Complete) 226 _ refl (search rules) refl
final-sound ending = sound (final_reply ending) _ _ refl (search rules) refl

pub all_readable : (answers : List DataAnswer) → SaysOnly IsReadable (transfers_law answers)
all_readable = says-only IsReadable first-sound final-sound

rest-final : (fits : Bool)
    → is_preliminary_reply (if fits then restart_reply else beyond_end_reply) ≡ false
rest-final true = refl
rest-final false = refl

final-final : (ending : Ending) → is_preliminary_reply (final_reply ending) ≡ false
final-final Complete = refl
final-final _ = refl

pub exchanges : (answers : List DataAnswer) → GivesExchanges (transfers_law answers)
exchanges answers s (Command (line.Retr path)) =
    (refl, final-final (outcome_of_retr answers s).ending)
exchanges answers s (Command (line.Stor path)) =
    (refl, final-final (outcome_of_stor answers s).ending)
exchanges answers s (Command (line.Rest to)) = rest-final (nat_le to (length s.file))
exchanges answers s (Command _) = refl
exchanges answers s (Refused fault) = refl

pub ruleset each_reply = (exchanges, all_readable)
