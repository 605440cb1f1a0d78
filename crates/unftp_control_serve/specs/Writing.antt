-- What writing does to an output.
use Rattle.std.specs.Prelude.{◌≡◌, ℕ, ◌+◌, ◌≤◌, ◌==◌, ◌&&◌, not, if◌then◌else◌, [], ◌∷◌, ◌++◌, length, take, List, Option, Some, Result, MatchResult}
use Rattle.std.specs.Io.KnownBytes.{Appends}
use Rattle.std.specs.declared.vec.Vec.{Vec}
use Rattle.std.specs.declared.alloc.Global.{Global}
use Rattle.unftp_control_defs.specs.Bytes.{Bytes}
use Rattle.unftp_control_defs.specs.FtpReply.{FtpReply, Nothing, encoded}
use Rattle.unftp_control_serve.specs.declared.output.Output.{Output}
use Rattle.unftp_control_serve.specs.declared.error.ServeError.{ServeError}
use Rattle.unftp_control_serve.specs.declared.error.ServeError.TheVariants.{Write, WriteZero, OutOfMemory}

-- What contracts see of an output: all bytes that its writes took, and how many of the last of them
-- were not flushed; and how often it failed. And the bytes that were written, where the writer's
-- own contracts know them: those of a vector do, and those of a socket don't.
pub record OutputState : Type 0 where
  pub taken : Bytes
  pub unflushed : ℕ
  pub failures : ℕ
  pub written : Option Bytes

-- of an output over a writer with these written bytes
abbrev pub output_state_of : {W : Type 0} → (W → Option Bytes) → Output W → OutputState
output_state_of contents output = record {
  taken = output.taken;
  unflushed = output.unflushed;
  failures = output.failures;
  written = contents output.writer;
}

-- of bytes that replies are appended to: no write to them fails, and nothing is left to flush
abbrev pub appended_output : Bytes → OutputState
appended_output bytes =
    record { taken = bytes; unflushed = 0; failures = 0; written = Some bytes }

abbrev pub appended_state_of : Vec ℕ Global → OutputState
appended_state_of bytes = appended_output bytes.items

-- The writes took exactly these bytes; where it is known what is written, it grew by them.
pub record HasWritten (before after : OutputState) (bytes : Bytes) : Type 0 where
  pub taken : after.taken ≡ before.taken ++ bytes
  pub known : Appends before.written after.written bytes

-- One write of these bytes, at Ok of the first `n`. An error is a failure, and nothing was written
-- then; and so is a write that takes nothing of bytes that are not empty.
abbrev pub OneWrite : {E : Type 0} → Result ℕ E → Bytes → OutputState → OutputState → Type 0
OneWrite result bytes before after = MatchResult result
    (λ n. HasWritten before after (take n bytes)
    × (after.failures ≡ before.failures + (if n == 0 && not (length bytes == 0) then 1 else 0))
    × (after.unflushed ≡ before.unflushed + n))
    (λ _. HasWritten before after []
    × (after.failures ≡ before.failures + 1) × (after.unflushed ≡ before.unflushed))

-- one flush
abbrev pub OneFlush : {T E : Type 0} → Result T E → OutputState → OutputState → Type 0
OneFlush result before after = HasWritten before after [] × MatchResult result
    (λ _. (after.failures ≡ before.failures) × (after.unflushed ≡ 0))
    (λ _. (after.failures ≡ before.failures + 1) × (after.unflushed ≡ before.unflushed))

-- the whole begins with this part
abbrev pub Begins : {A : Type 0} → List A → List A → Type 0
Begins {A} whole part = (left : List A) × (whole ≡ part ++ left)

-- How many bytes may be unflushed after `text`, which was flushed where it is not empty, and then
-- `part`, which need not be.
abbrev pub IsFlushed : Bytes → Bytes → ℕ → ℕ → Type 0
IsFlushed [] part unflushed unflushed' = unflushed' ≤ unflushed + length part
IsFlushed (b ∷ text) part unflushed unflushed' = unflushed' ≤ length part

-- the bytes were written, and not flushed
pub record Wrote (bytes : Bytes) (before after : OutputState) : Type 0 where
  pub written : HasWritten before after bytes
  pub no_failure : after.failures ≡ before.failures
  pub unflushed : after.unflushed ≡ before.unflushed + length bytes

-- the bytes were written, and flushed where there are any
pub record IsSent (bytes : Bytes) (before after : OutputState) : Type 0 where
  pub written : HasWritten before after bytes
  pub no_failure : after.failures ≡ before.failures
  pub flushed : IsFlushed bytes [] before.unflushed after.unflushed

-- a beginning of the bytes was written, and then the writer failed
pub record CutShort (bytes : Bytes) (before after : OutputState) : Type 0 where
  pub part : Bytes
  pub begins : Begins bytes part
  pub written : HasWritten before after part
  pub failure : after.failures ≡ before.failures + 1
  pub unflushed : after.unflushed ≤ before.unflushed + length part

-- an error of writing, and no other
abbrev pub WriterFailed : ServeError → Type 0 → Type 0
WriterFailed (Write _) P = P
WriterFailed WriteZero P = P
WriterFailed _ P = ⊥

abbrev pub Writes : {T : Type 0} → Result T ServeError → Bytes → OutputState → OutputState → Type 0
Writes result bytes before after = MatchResult result
    (λ _. Wrote bytes before after)
    (λ error. WriterFailed error (CutShort bytes before after))

-- the error of a sending: the writer failed, or memory ran out, and nothing was written
abbrev pub SendFailed : ServeError → Bytes → OutputState → OutputState → Type 0
SendFailed OutOfMemory bytes before after = after ≡ before
SendFailed error bytes before after = WriterFailed error (CutShort bytes before after)

abbrev pub Sends : {T : Type 0} → Result T ServeError → Bytes → OutputState → OutputState → Type 0
Sends result bytes before after = MatchResult result
    (λ _. IsSent bytes before after)
    (λ error. SendFailed error bytes before after)

-- the sending of a reply: where memory ran out it is not `Nothing`, and nothing was written
abbrev pub ReplyFailed : ServeError → FtpReply → OutputState → OutputState → Type 0
ReplyFailed OutOfMemory reply before after = (after ≡ before) × ¬ (reply ≡ Nothing)
ReplyFailed error reply before after = WriterFailed error (CutShort (encoded reply) before after)

abbrev pub SendsReply : {T : Type 0} → Result T ServeError → FtpReply → OutputState → OutputState
    → Type 0
SendsReply result reply before after = MatchResult result
    (λ _. IsSent (encoded reply) before after)
    (λ error. ReplyFailed error reply before after)
