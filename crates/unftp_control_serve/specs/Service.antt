-- What a whole service comes to.
use Rattle.std.specs.Prelude.{◌≡◌, ℕ, ◌+◌, ◌-◌, ◌^◌, ◌<◌, ◌≤◌, ◌⊎◌, max, true, false, List, [], ◌∷◌, ◌++◌, if◌then◌else◌, length, Option, Some}
use Rattle.std.specs.List.{AllByRecursion, concat}
use Rattle.std.specs.Io.KnownBytes.{Appends, IsAtEnd}
use Rattle.unftp_control_defs.specs.Bytes.{Bytes}
use Rattle.unftp_control_defs.specs.Events.{FtpEvent, events}
use Rattle.unftp_control_defs.specs.FtpReply.{IsPlain}
use Rattle.unftp_control_defs.specs.Input.{InputState, HasEnded, HasRead, WereRead}
use Rattle.unftp_control_defs.specs.Lines.{incomplete_line}
use Rattle.unftp_control_defs.specs.ReplyReader.{ReadsBack}
use Rattle.unftp_control_defs.specs.Run.{SessionLaw, last_state, replies, run_for, ends_for, text_for, unread, after_end}
use Rattle.unftp_control_serve.specs.Writing.{Begins, IsFlushed, HasWritten}
use Rattle.unftp_control_serve.specs.Endings.{Snapshot, RunFinished, RunFailed}
use Rattle.unftp_control_serve.specs.Decoder.{kept_length, saturating_u64}
use Rattle.unftp_control_serve.specs.Engine.{AreScanned, EngineState}
use Rattle.unftp_control_serve.specs.declared.service.Served.{Served}
use Rattle.unftp_control_serve.specs.declared.error.ServeError.{ServeError}
use Rattle.unftp_control_serve.specs.declared.error.ServeError.TheVariants.{Read, Write, WriteZero, Handler, OutOfMemory, TooManyReads}

-- what is returned of an engine
pub record Reports (served : Served) (engine : EngineState) : Type 0 where
  pub left : served.left ≡ engine.left
  pub done : served.done ≡ engine.finished
  pub scanned : served.tests ≡ engine.scanned
  pub held : served.held ≡ engine.held

-- the most bytes that are held at once of an input that comes in these pieces: what is kept of the
-- incomplete line, and the piece after it
abbrev pub most_held : Option ℕ → Bytes → List Bytes → ℕ
most_held limit incomplete [] = 0
most_held limit incomplete (piece ∷ pieces) = max
    (kept_length limit incomplete + length piece)
    (most_held limit (incomplete_line (incomplete ++ piece)) pieces)

-- What a service under a limit on the length of a line comes to.
module _ (limit : Option ℕ) {S : Type 0} (law : SessionLaw S) (before after : Snapshot S)
    (input input' : InputState) where
  -- All lines of these pieces were answered, and the run goes on.
  pub record AnsweredPieces (pieces : List Bytes) : Type 0 where
    pub answered : RunFinished law before (events limit (concat pieces)) after
    pub goes_on : ends_for limit law before.state (concat pieces) ≡ false

  -- It goes on after all pieces but the last.
  pub record EndsInLast (pieces : List Bytes) : Type 0 where
    pub first : List Bytes
    pub last : Bytes
    pub whole : pieces ≡ first ++ last ∷ []
    pub goes_on : ends_for limit law before.state (concat first) ≡ false

  -- The lines of the run over what was read were answered. Either the run ended, in the last
  -- piece; or the reader came to its end, and gave nothing then. So many bytes came after the
  -- run's last line; so many comparisons with a line feed were made; and so many bytes were held.
  pub record ServedInPieces (served : Served) : Type 0 where
    pub pieces : List Bytes
    -- These pieces were read; and then nothing, where the handler didn't end the session.
    pub were_read : WereRead input input' pieces (if served.done then [] else 0 ∷ [])
    -- `done` is whether the handler ended the session.
    pub ended : served.done ≡ ends_for limit law before.state (concat pieces)
    -- It did so in the last piece: no read is made after that.
    pub in_last : served.done ≡ true → EndsInLast pieces
    -- Else the reader has come to its end.
    pub at_end : served.done ≡ false → IsAtEnd input'.remaining
    -- All lines of the run were answered: no write, no flush and no handler failed.
    pub answered : RunFinished law before (run_for limit law before.state (concat pieces)) after
    -- `left` is how many bytes were read after the last line of the run.
    pub left : served.left ≡ saturating_u64 (length (unread limit law before.state (concat pieces)))
    -- As many bytes were scanned as came up to the session's end, and at most 31 more.
    pub scanned : AreScanned served.tests (length (concat pieces))
        (length (after_end limit law before.state (concat pieces)))
    -- `held` is the most bytes of an incomplete line and the piece after it.
    pub held : served.held ≡ most_held limit [] pieces
    -- No read failed.
    pub no_read_failed : input'.failures ≡ input.failures

  -- It failed at some line of what was read, and all lines of the pieces before the last one were
  -- answered.
  pub record EndedLate (error : ServeError) : Type 0 where
    pub pieces : List Bytes
    pub last : Bytes
    -- These pieces were read, and nothing else.
    pub were_read : WereRead input input' (pieces ++ last ∷ []) []
    pub done : List FtpEvent
    -- The run over them failed after all replies to the events `done`.
    pub failed : RunFailed limit law before (concat pieces ++ last) after error done
    -- Among these are all events of the pieces before the last.
    pub late : Begins done (events limit (concat pieces))
    -- No read failed.
    pub no_read_failed : input'.failures ≡ input.failures

  -- There was no memory for the last piece, and all lines of those before it were answered. With it
  -- more bytes would have been held at once than were held of those before.
  pub record NoRoomForPiece : Type 0 where
    pub pieces : List Bytes
    pub last : Bytes
    -- These pieces were read, and nothing else.
    pub were_read : WereRead input input' (pieces ++ last ∷ []) []
    pub lacked : most_held limit [] pieces
        < kept_length limit (incomplete_line (concat pieces)) + length last
    pub answered : AnsweredPieces pieces
    -- No read failed.
    pub no_read_failed : input'.failures ≡ input.failures

  -- The last read failed, and all lines of what was read were answered.
  pub record ReadFailed : Type 0 where
    pub pieces : List Bytes
    -- These pieces were read, and nothing else.
    pub were_read : WereRead input input' pieces []
    pub answered : AnsweredPieces pieces
    -- One read failed.
    pub read_failed : input'.failures ≡ input.failures + 1

  -- There were too many reads, and all lines of what was read were answered.
  pub record ReadTooOften : Type 0 where
    pub pieces : List Bytes
    -- These pieces were read, and nothing else.
    pub were_read : WereRead input input' pieces []
    pub answered : AnsweredPieces pieces
    -- They have at least 2^64 - 1 bytes.
    pub many : 2 ^ 64 - 1 ≤ length (concat pieces)
    -- No read failed.
    pub no_read_failed : input'.failures ≡ input.failures

  -- which of them an error means
  abbrev pub ServeEnded : ServeError → Type 0
  ServeEnded (Read _) = ReadFailed
  ServeEnded (Write error) = EndedLate (Write error)
  ServeEnded WriteZero = EndedLate WriteZero
  ServeEnded (Handler error) = EndedLate (Handler error)
  ServeEnded OutOfMemory = NoRoomForPiece ⊎ EndedLate OutOfMemory
  ServeEnded TooManyReads = ReadTooOften
  ServeEnded _ = ⊥

-- What it means at Ok that a session was served, whatever pieces its input came in.
pub record Serves (limit : Option ℕ) {S : Type 0} (law : SessionLaw S) (before after : Snapshot S)
    (input input' : InputState) (served : Served) : Type 0 where
  -- The reads gave these bytes; and where the handler didn't end the session, the last one was of
  -- none, at the reader's end.
  pub read : Bytes
  pub given : HasRead input input' read
  pub at_end : served.done ≡ false → HasEnded input'
  -- The writes took exactly the replies to the lines of these bytes, up to the line that left the
  -- handler done, and they were flushed.
  pub written : HasWritten before.output after.output (text_for limit law before.state read)
  pub flushed : IsFlushed (text_for limit law before.state read) [] before.output.unflushed
      after.output.unflushed
  -- The handler is in the last state of this run.
  pub state : after.state ≡ last_state law before.state (run_for limit law before.state read)
  -- Whether a line left the handler done.
  pub done : served.done ≡ ends_for limit law before.state read
  -- Each byte was compared with a line feed once; of the bytes after the line that left the handler
  -- done, at most 31 were.
  pub tested : AreScanned served.tests (length read) (length (after_end limit law before.state read))
  -- So many bytes came after the last line of the run.
  pub left : served.left ≡ saturating_u64 (length (unread limit law before.state read))

-- The replies to what was read, from this state on, are read by a client as what they show, and as
-- nothing else, where each is plain.
pub record AreReadBack (limit : Option ℕ) {S : Type 0} (law : SessionLaw S) (state : S)
    (input input' : InputState) : Type 0 where
  pub read : Bytes
  pub given : HasRead input input' read
  pub read_back : AllByRecursion IsPlain (replies law state (run_for limit law state read))
      → ReadsBack (text_for limit law state read)
      (replies law state (run_for limit law state read))

-- What follows where the bytes of the whole input are known, read or not, as those of a slice are:
-- what was read may be a part of it, where the handler ended the session, and the same is so of
-- all.
pub record ServesKnown (limit : Option ℕ) {S : Type 0} (law : SessionLaw S)
    (before after : Snapshot S)
    (remaining : Option Bytes) (served : Served) (input : Bytes) : Type 0 where
  -- The bytes that were written, where they are known, grew by the replies to the lines of the
  -- whole input, up to the session's end. So the handler's last state and `done` follow from it.
  pub written : Appends before.output.written after.output.written
      (text_for limit law before.state input)
  pub state : after.state ≡ last_state law before.state (run_for limit law before.state input)
  pub done : served.done ≡ ends_for limit law before.state input
  -- As many bytes were scanned as come up to the session's end, and at most 31 more.
  pub tested : AreScanned served.tests (length input)
      (length (after_end limit law before.state input))
  -- These bytes were read, and the reader has yet to give the others: none, where the handler
  -- didn't end the session. `left` is how many were read of those after the last line of the run.
  pub read : Bytes
  pub rest : Bytes
  pub whole : input ≡ read ++ rest
  pub to_be_read : remaining ≡ Some rest
  pub at_end : served.done ≡ false → rest ≡ []
  pub left : served.left
      ≡ saturating_u64 (length (unread limit law before.state input) - length rest)
  -- Where the handler ended the session and no byte is left, they are all that come after its end.
  pub not_read : served.done ≡ true → served.left ≡ 0
      → after_end limit law before.state input ≡ rest
  -- A client reads exactly the replies in their bytes, where each of them is plain.
  pub read_back : AllByRecursion IsPlain
      (replies law before.state (run_for limit law before.state input))
      → ReadsBack (text_for limit law before.state input)
      (replies law before.state (run_for limit law before.state input))
