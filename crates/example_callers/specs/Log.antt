-- The log of a control connection: what is written for the bytes that were read, and how it ends.
use Rattle.std.specs.Prelude.{◌≡◌, ℕ, ◌+◌, ◌-◌, ◌^◌, ◌≤◌, ◌⊎◌, List, [], ◌∷◌, ◌++◌, length, Option}
use Rattle.std.specs.List.{concat, flat_map}
use Rattle.unftp_control_defs.specs.Bytes.{Bytes, LF}
use Rattle.unftp_control_defs.specs.Input.{InputState, WereRead}
use Rattle.unftp_control_defs.specs.Lines.{incomplete_line, lines_of}
use Rattle.unftp_control_log.specs.LogLine.{logged}
use Rattle.unftp_control_serve.specs.Writing.{OutputState, SendFailed, IsSent}
use Rattle.unftp_control_serve.specs.declared.error.ServeError.{ServeError}
use Rattle.unftp_control_serve.specs.declared.error.ServeError.TheVariants.{Read, Write, WriteZero, OutOfMemory, TooManyReads}

-- the log line of a line, and a line feed
abbrev pub log_entry : Option ℕ → Bytes → Bytes
log_entry limit line = logged limit line ++ LF ∷ []

-- one for each of these lines, in order
abbrev pub log_of : Option ℕ → List Bytes → Bytes
log_of limit lines = flat_map (log_entry limit) lines

-- The log of these lines stopped at one of them: the entries of those before it were written and
-- flushed, and its own was not made, or not written whole and flushed.
pub record StopsAt (limit : Option ℕ) (lines : List Bytes) (before after : OutputState)
    (error : ServeError) : Type 0 where
  pub logged : List Bytes
  pub line : Bytes
  pub later : List Bytes
  pub split : lines ≡ logged ++ line ∷ later
  pub between : OutputState
  pub sent : IsSent (log_of limit logged) before between
  pub fails : SendFailed error (log_entry limit line) between after

-- What a log under a limit on the length of a line comes to.
module _ (limit : Option ℕ) (before after : OutputState) (input input' : InputState) where
  -- All lines of what was read are logged. It was read in pieces, and then as many bytes as `more`
  -- says: of none, where the last read came to the end. So many reads failed.
  pub record LogsAll (more : List ℕ) (failed : ℕ) : Type 0 where
    pub pieces : List Bytes
    pub were_read : WereRead input input' pieces more
    pub sent : IsSent (log_of limit (lines_of (concat pieces))) before after
    pub reads_failed : input'.failures ≡ input.failures + failed

  -- All lines of the pieces before the last one are logged. Then there was no memory for the last
  -- one, or the log stopped at a line that ends in it. No read failed.
  pub record StopsInLast (error : ServeError) : Type 0 where
    pub pieces : List Bytes
    pub last : Bytes
    pub were_read : WereRead input input' (pieces ++ last ∷ []) []
    pub between : OutputState
    pub sent : IsSent (log_of limit (lines_of (concat pieces))) before between
    pub stops : ((error ≡ OutOfMemory) × (after ≡ between))
        ⊎ StopsAt limit (lines_of (incomplete_line (concat pieces) ++ last)) between after error
    pub no_read_failed : input'.failures ≡ input.failures

  -- which of them an error means
  abbrev pub LogEnded : ServeError → Type 0
  LogEnded (Read _) = LogsAll [] 1
  LogEnded (Write error) = StopsInLast (Write error)
  LogEnded WriteZero = StopsInLast WriteZero
  LogEnded OutOfMemory = StopsInLast OutOfMemory
  LogEnded TooManyReads = (all : LogsAll [] 0) × (2 ^ 64 - 1 ≤ length (concat all.pieces))
  LogEnded _ = ⊥
