-- Replies that are read from a reader.
use Rattle.std.specs.Prelude.{◌≡◌, ℕ, ◌+◌, ◌≤◌, ◌⊎◌, List, Option, None, Ok, Err, Result, MatchOption, MatchResult, [], ◌∷◌, ◌++◌, length, max}
use Rattle.std.specs.List.{concat}
use Rattle.std.specs.Io.KnownBytes.{IsAtEnd}
use Rattle.unftp_control_defs.specs.Bytes.{Bytes}
use Rattle.unftp_control_defs.specs.Input.{InputState, HasRead, WereRead}
use Rattle.unftp_control_defs.specs.ReplyReader.{HasFront, IsMalformed}
use Rattle.unftp_control_defs.specs.ReplyLimit.{IsTooLongReply, within_limit}
use Rattle.unftp_control_read.specs.ReplyDecoding.{HasNoReply, IsShortPart, NextReply, PendingReplies, TakesFirst, after_read, appended, content, with_room}
use Rattle.unftp_control_read.specs.declared.errors.NextReplyError.{NextReplyError}
use Rattle.unftp_control_read.specs.declared.errors.NextReplyError.TheVariants as next
use Rattle.unftp_control_read.specs.declared.errors.ReceiveError.{ReceiveError}
use Rattle.unftp_control_read.specs.declared.errors.ReceiveError.TheVariants.{Read, Malformed, TooLong, OutOfMemory, TooManyReads}

-- At an error nothing is appended: reading failed, or there was no memory for what it would give.
abbrev pub FailsToRead : InputState → InputState → ReceiveError → Type 0
FailsToRead before after (Read _) = HasRead before after []
    × (after.reads ≡ before.reads) × (after.failures ≡ before.failures + 1)
FailsToRead before after OutOfMemory = after ≡ before
FailsToRead before after _ = ⊥

-- what an error leaves of the pending bytes: the buffer had room for the read, unless there was no
-- memory for it
abbrev pub after_failure : PendingReplies → ReceiveError → PendingReplies
after_failure pending OutOfMemory = pending
after_failure pending _ = with_room pending

-- What one read appends: at Ok what it gave, which is nothing only at the end; at an error it
-- leaves this.
abbrev pub AppendsRead : {A : Type 0} → (A → Bytes → A) → (A → ReceiveError → A) → ℕ → A → A
    → InputState → InputState → Result ℕ ReceiveError → Type 0
AppendsRead append fail most before after input input' result = MatchResult result
    (λ n. (piece : Bytes) × (after ≡ append before piece) × (length piece ≡ n) × (n ≤ most)
    × HasRead input input' piece × (input'.reads ≡ input.reads ++ n ∷ [])
    × (input'.failures ≡ input.failures) × (n ≡ 0 → IsAtEnd input'.remaining))
    (λ error. (after ≡ fail before error) × FailsToRead input input' error)

-- to the bytes of the buffer
abbrev pub AppendsPiece : ℕ → Bytes → Bytes → InputState → InputState
    → Result ℕ ReceiveError → Type 0
AppendsPiece = AppendsRead (λ bytes piece. bytes ++ piece) (λ bytes error. bytes)

-- and to the pending bytes
abbrev pub AppendsPending : ℕ → PendingReplies → PendingReplies → InputState → InputState
    → Result ℕ ReceiveError → Type 0
AppendsPending = AppendsRead after_read after_failure

-- the error of `next_reply`, as an error of `read_reply`
abbrev pub failure_of : NextReplyError → ReceiveError
failure_of next.Malformed = Malformed
failure_of next.TooLong = TooLong
failure_of next.OutOfMemory = OutOfMemory

-- what an error means for the pending bytes: there are never too many reads, since so many bytes
-- are never pending
abbrev pub HasFailure : Option ℕ → Bytes → ReceiveError → Type 0
HasFailure limit bytes (Read _) = IsShortPart limit bytes
HasFailure limit bytes Malformed = IsMalformed (within_limit limit bytes)
HasFailure limit bytes TooLong = IsTooLongReply limit bytes
HasFailure limit bytes OutOfMemory =
    HasFront (within_limit limit bytes) ⊎ IsShortPart limit bytes
HasFailure limit bytes TooManyReads = ⊥

-- Before the last piece that was read, there was only a part of a reply.
pub record LastRead (before : PendingReplies) (pieces : List Bytes) : Type 0 where
  pub first : List Bytes
  pub last : Bytes
  pub whole : pieces ≡ first ++ last ∷ []
  pub part : IsShortPart before.limit (before.bytes ++ concat first)

-- nothing was read, or only where the bytes before were a part of a reply
abbrev pub IsNeeded : PendingReplies → List Bytes → Type 0
IsNeeded before pieces = (pieces ≡ []) ⊎ LastRead before pieces

-- a read of nothing, after which there is no reply
abbrev pub end_read : NextReply ReceiveError → List ℕ
end_read (Ok None) = 0 ∷ []
end_read _ = []

-- What the last read gave where it is none of the pieces: nothing, at the end or at a failure.
abbrev pub last_read : NextReply ReceiveError → List Bytes
last_read (Ok None) = [] ∷ []
last_read (Err (Read _)) = [] ∷ []
last_read _ = []

-- The most bytes that the buffer has held, where it held so many, so many were pending, and then
-- reads gave these pieces: before each it holds the pending bytes, and room for 4,096 more.
abbrev pub held_by_reads : (held pending : ℕ) → List Bytes → ℕ
held_by_reads held pending [] = held
held_by_reads held pending (piece ∷ pieces) =
    held_by_reads (max held (pending + 4096)) (pending + length piece) pieces

-- how many reads failed
abbrev pub failed_reads : NextReply ReceiveError → ℕ
failed_reads (Err (Read _)) = 1
failed_reads _ = 0

-- Of the pending bytes and those that were read after them the first reply is taken. Or the reader
-- is at its end, and they are a part of a reply; or there is an error, and they stay.
pub record Receives (before : PendingReplies) (input : InputState)
    (result : NextReply ReceiveError) (after : PendingReplies) (input' : InputState)
    : Type 0 where
  pub pieces : List Bytes
  -- each piece has at most 4,096 bytes; at `None` the last read came to the end
  pub were_read : WereRead input input' pieces (end_read result)
  -- a failed read is counted at the error `Read`, and at no other outcome
  pub failures : input'.failures ≡ input.failures + failed_reads result
  pub takes_next : MatchResult result
      (λ next. MatchOption next
      (HasNoReply (appended before (concat pieces)) after × IsAtEnd input'.remaining)
      (λ reply. TakesFirst (appended before (concat pieces)) (content reply) after))
      (λ error. HasFailure before.limit (before.bytes ++ concat pieces) error
      × (after.bytes ≡ before.bytes ++ concat pieces))
  -- and it was read only where it had to be
  pub needed : IsNeeded before pieces
  -- the buffer has held what each read had room for
  pub held : after.held
      ≡ held_by_reads before.held (length before.bytes) (pieces ++ last_read result)
