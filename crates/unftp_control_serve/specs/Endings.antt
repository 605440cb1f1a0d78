-- How a run ended: which of its events were answered, why no more were, and what was written and
-- flushed.
use Rattle.std.specs.Prelude.{◌≡◌, ⊤, ℕ, ◌+◌, ◌⊎◌, Bool, drop, List, [], ◌∷◌, ◌++◌, flat_map, length, Option, Result, Err, MatchResult}
use Rattle.unftp_control_defs.specs.Bytes.{Bytes}
use Rattle.unftp_control_defs.specs.Events.{Fault, FtpEvent}
use Rattle.unftp_control_defs.specs.FtpReply.{FtpReply, Nothing, encoded}
use Rattle.unftp_control_defs.specs.Lines.{lines_of}
use Rattle.unftp_control_defs.specs.Run.{SessionLaw, ends_for, last_state, run_for, turn_replies, state_after, text_of, turn, unread}
use Rattle.unftp_control_message.specs.ErrorMeaning.{fault_of}
use Rattle.unftp_control_serve.specs.Decoder.{FirstMayRunOut}
use Rattle.unftp_control_serve.specs.Writing.{OutputState, output_state_of, Begins, IsFlushed, HasWritten}
use Rattle.unftp_control_serve.specs.declared.output.Output.{Output}
use Rattle.unftp_control_serve.specs.declared.error.ServeError.{ServeError}
use Rattle.unftp_control_serve.specs.declared.error.ServeError.TheVariants as error

-- what contracts see of a handler and an output, before or after a call
pub record Snapshot (S : Type 0) : Type 0 where
  pub state : S
  pub failures : ℕ
  pub output : OutputState

abbrev pub snapshot_with : {H S K : Type 0} → (H → S) → (H → ℕ) → (K → OutputState)
    → H → K → Snapshot S
snapshot_with state failures output_state handler output = record {
  state = state handler;
  failures = failures handler;
  output = output_state output;
}

abbrev pub snapshot_of : {H S W : Type 0} → (H → S) → (H → ℕ) → (W → Option Bytes) → H → Output W
    → Snapshot S
snapshot_of state failures contents =
    snapshot_with state failures (output_state_of contents)

-- Why a run ended: all its events were answered; the writer failed, after this part of a reply; the
-- handler failed; or memory ran out, for the command of a line or for a reply.
pub data Cause : Type 0 where
  Finished : Cause
  Write : Bytes → Cause
  Handler : Fault → Cause
  LineMemory : Cause
  ReplyMemory : Cause

-- Why a run can have ended that gave this error. A run does not read, and a stopped engine begins
-- none: so three errors have no cause here.
abbrev pub IsCauseOf : Cause → ServeError → Type 0
IsCauseOf _ (error.Read _) = ⊥
IsCauseOf _ error.TooManyReads = ⊥
IsCauseOf _ error.Stopped = ⊥
IsCauseOf (Write _) (error.Write _) = ⊤
IsCauseOf (Write _) error.WriteZero = ⊤
IsCauseOf (Handler fault) (error.Handler failed) = fault ≡ fault_of failed
IsCauseOf LineMemory error.OutOfMemory = ⊤
IsCauseOf ReplyMemory error.OutOfMemory = ⊤
IsCauseOf _ _ = ⊥

-- The first reply of a turn that was not sent, after those that were: this is so of it, and it
-- leaves this state.
pub record Unsent {S : Type 0} (steps sent : List (FtpReply × S)) (IsSo : FtpReply → Type 0)
    (s' : S) : Type 0 where
  pub reply : FtpReply
  pub later : List (FtpReply × S)
  pub split : steps ≡ sent ++ (reply, s') ∷ later
  pub so : IsSo reply

-- The handler was in state `s` after the events that were answered. What is so of its last state,
-- of the first of the events that were not, and of its replies that were sent.
abbrev pub EndsAt : {S : Type 0} → SessionLaw S → Cause → S → List FtpEvent → List (FtpReply × S)
    → S → Type 0
EndsAt law Finished s [] [] s' = s' ≡ s
EndsAt law (Write part) s (event ∷ _) sent s' =
    Unsent (turn law s event) sent (λ reply. Begins (encoded reply) part) s'
EndsAt law (Handler fault) s (event ∷ _) [] s' = law.may_fail s event fault
EndsAt law (Handler fault) s (event ∷ _) (step ∷ steps) s' =
    Begins (turn law s event) (step ∷ steps) × law.may_break (state_after step.1 steps) fault
EndsAt law LineMemory s (event ∷ _) [] s' = s' ≡ s
EndsAt law ReplyMemory s (event ∷ _) sent s' =
    Unsent (turn law s event) sent (λ reply. ¬ (reply ≡ Nothing)) s'
EndsAt _ _ _ _ _ _ = ⊥

-- the text of the whole replies: those to some events, and those of the next that were sent
abbrev pub whole_text : {S : Type 0} → SessionLaw S → S → List FtpEvent → List (FtpReply × S)
    → Bytes
whole_text law s done [] = text_of law s done
whole_text law s done (step ∷ steps) =
    text_of law s done ++ flat_map encoded (turn_replies (step ∷ steps))

-- the part of the next reply that was written, and it after the text of the whole ones
abbrev pub part_written : Cause → Bytes
part_written (Write part) = part
part_written _ = []

abbrev pub text_until : Bytes → Cause → Bytes
text_until text (Write part) = text ++ part
text_until text _ = text

-- how often the writer failed, and the handler
abbrev pub write_failures : Cause → ℕ
write_failures (Write _) = 1
write_failures _ = 0

abbrev pub handler_failures : Cause → ℕ
handler_failures (Handler _) = 1
handler_failures _ = 0

-- This text was written, and after it the part of the next reply that the cause names. `IsFlushed`
-- says what of it was flushed. Where the cause is a failure of the writer or of the handler, the
-- count of its failures rose by one; else both counts stayed.
pub record HasAnswered {S : Type 0} (text : Bytes) (cause : Cause) (before after : Snapshot S)
    : Type 0 where
  -- Exactly the text and the part were written.
  pub written : HasWritten before.output after.output (text_until text cause)
  -- The text is flushed, where it is not empty; the part may not be.
  pub flushed : IsFlushed text (part_written cause) before.output.unflushed after.output.unflushed
  -- The writer failed once where it is the cause, and else never.
  pub write_failed : after.output.failures ≡ before.output.failures + write_failures cause
  -- The handler failed once where it is the cause, and else never.
  pub handler_failed : after.failures ≡ before.failures + handler_failures cause

-- A run ended for this cause, after all replies to the events `done`, and the replies `sent` to the
-- first of `later`; the others were not sent.
pub record RunEnded {S : Type 0} (law : SessionLaw S) (before : Snapshot S)
    (done later : List FtpEvent) (sent : List (FtpReply × S)) (cause : Cause) (after : Snapshot S)
    : Type 0 where
  -- The handler's state follows from the events and the replies that were sent; a fault of it is
  -- one that its law allows there.
  pub ends_at : EndsAt law cause (last_state law before.state done) later sent after.state
  -- The replies that were sent are written and flushed, and the failures are counted.
  pub given : HasAnswered (whole_text law before.state done sent) cause before after

-- It ended because all events were answered.
abbrev pub RunFinished : {S : Type 0} → SessionLaw S → Snapshot S → List FtpEvent → Snapshot S
    → Type 0
RunFinished law before events after = RunEnded law before events [] [] Finished after

-- At one event it ended with this error, after the replies `sent`; memory for its line was there.
pub record EventFailed {S : Type 0} (law : SessionLaw S) (before : Snapshot S) (event : FtpEvent)
    (after : Snapshot S) (error : ServeError) : Type 0 where
  pub sent : List (FtpReply × S)
  pub cause : Cause
  pub means : IsCauseOf cause error
  pub has_line : ¬ (cause ≡ LineMemory)
  pub ended : RunEnded law before [] (event ∷ []) sent cause after

abbrev pub EventOutcome : {S T : Type 0} → SessionLaw S → Snapshot S → FtpEvent → Snapshot S
    → Result T ServeError → Type 0
EventOutcome law before event after result = MatchResult result
    (λ _. RunFinished law before (event ∷ []) after)
    (λ failure. EventFailed law before event after failure)

-- The run over an input ended with this error, after all replies to its events `done`, and the
-- replies `sent` to the next. Where memory ran out for the command of a line, it is the line after
-- those of these events.
pub record RunFailed (limit : Option ℕ) {S : Type 0} (law : SessionLaw S) (before : Snapshot S)
    (input : Bytes) (after : Snapshot S) (error : ServeError) (done : List FtpEvent)
    : Type 0 where
  pub later : List FtpEvent
  pub split : run_for limit law before.state input ≡ done ++ later
  pub sent : List (FtpReply × S)
  pub cause : Cause
  -- The cause is one of this error's.
  pub means : IsCauseOf cause error
  -- The replies to `done` and those `sent` are written; of another only a part, where the writer
  -- failed.
  pub ended : RunEnded law before done later sent cause after
  -- Memory runs out only for a line within the limit that may take memory: the next one.
  pub next_line : cause ≡ LineMemory → FirstMayRunOut limit (drop (length done) (lines_of input))

-- All lines of the run over an input were answered: whether it ended in it, and which bytes come
-- after its last line.
pub record RunAnswered (limit : Option ℕ) {S : Type 0} (law : SessionLaw S) (before : Snapshot S)
    (input : Bytes) (after : Snapshot S) (ended : Bool) (left : Bytes) : Type 0 where
  pub answered : RunFinished law before (run_for limit law before.state input) after
  pub ended_is : ended ≡ ends_for limit law before.state input
  pub left_is : left ≡ unread limit law before.state input

abbrev pub RunOutcome : {S : Type 0} → Option ℕ → SessionLaw S → Snapshot S → Bytes → Snapshot S
    → Bytes → Result Bool ServeError → Type 0
RunOutcome limit law before input after left result = MatchResult result
    (λ ended. RunAnswered limit law before input after ended left)
    (λ failure. (done : List FtpEvent) × RunFailed limit law before input after failure done)

-- There was no memory for a piece, where room for it was lacking, and so nothing was done with it.
abbrev pub NoRoom : {S : Type 0} → ServeError → Type 0 → Snapshot S → Snapshot S → Type 0
NoRoom failure lacks before after =
    (failure ≡ error.OutOfMemory) × lacks × (after ≡ before)

-- the same of an input that ends with a piece
abbrev pub PieceOutcome : {S T : Type 0} → Option ℕ → SessionLaw S → Snapshot S → Bytes → Type 0
    → Snapshot S → Result T ServeError → Type 0
PieceOutcome limit law before input lacks after result = MatchResult result
    (λ _. RunFinished law before (run_for limit law before.state input) after)
    (λ failure. NoRoom failure lacks before after
    ⊎ ((done : List FtpEvent) × RunFailed limit law before input after failure done))

-- P, where the answer is that the writer failed or took nothing
abbrev pub OnWrite : {T : Type 0} → Result T ServeError → Type 0 → Type 0
OnWrite (Err (error.Write _)) P = P
OnWrite (Err error.WriteZero) P = P
OnWrite _ P = ⊤

-- P, where the answer is that memory ran out
abbrev pub OnMemory : {T : Type 0} → Result T ServeError → Type 0 → Type 0
OnMemory (Err error.OutOfMemory) P = P
OnMemory _ P = ⊤
