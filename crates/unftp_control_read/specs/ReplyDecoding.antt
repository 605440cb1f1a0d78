-- The pending bytes of a reply decoder.
use Rattle.std.specs.Prelude.{◌≡◌, ℕ, ◌+◌, ◌<◌, ◌≤◌, List, [], ◌++◌, length, max, drop, Option, Some, None, Result, Ok, Err, MatchResult, MatchOption, IfSome}
use Rattle.unftp_control_defs.specs.Bytes.{Bytes}
use Rattle.unftp_control_defs.specs.Buffer.{held_after_piece}
use Rattle.unftp_control_defs.specs.ReplyReader.{FrontReply, HasFront, IsMalformed, IsPartial}
use Rattle.unftp_control_defs.specs.ReplyLimit.{IsTooLongReply, within_limit}
use Rattle.unftp_control_defs.specs.TakingSteps.{TakesReply}
use Rattle.unftp_control_read.specs.Reading.{contents}
use Rattle.unftp_control_read.specs.Search.{IsSearched}
use Rattle.unftp_control_read.specs.declared.search.Search.{Search}
use Rattle.unftp_control_read.specs.declared.decoder.FirstReply.{FirstReply}
use Rattle.unftp_control_read.specs.declared.ReadReplyError.{ReadReplyError}
use Rattle.unftp_control_read.specs.declared.ReadReplyError.TheVariants as refusal
use Rattle.unftp_control_read.specs.declared.reply.ReceivedReply.{ReceivedReply}
use Rattle.unftp_control_read.specs.declared.errors.NextReplyError.{NextReplyError}
use Rattle.unftp_control_read.specs.declared.errors.NextReplyError.TheVariants.{Malformed, TooLong, OutOfMemory}

-- the code and the lines, whatever their capacity
abbrev pub content : ReceivedReply → ℕ × List Bytes
content reply = (reply.code, contents reply.lines)

-- What holds of a decoder: the pending bytes begin at `start`, and the search has come so far in
-- them. There is room for as many bytes as the buffer has held.
pub record IsReplyDecoder (limit : Option ℕ) (search : Search) (buf : Bytes)
    (start held capacity : ℕ) : Type 0 where
  pub start_within : start ≤ length buf
  pub searched : IsSearched (within_limit limit (drop start buf)) search
  pub room : held ≤ capacity

pub record PendingReplies : Type 0 where
  -- the bytes after the last reply that was taken
  pub bytes : Bytes
  -- the most bytes that a reply may have
  pub limit : Option ℕ
  -- how many bytes the buffer holds, with those of the replies that are taken, and the most that it
  -- has held
  pub buffered : ℕ
  pub held : ℕ

-- no bytes so far
abbrev pub no_bytes : Option ℕ → PendingReplies
no_bytes limit = record { bytes = []; limit = limit; buffered = 0; held = 0 }

-- these bytes, in a buffer that holds so many, and has held so many
abbrev pub pending_replies : Option ℕ → Bytes → ℕ → ℕ → PendingReplies
pending_replies limit bytes buffered held =
    record { bytes = bytes; limit = limit; buffered = buffered; held = held }

-- The replies that were taken have left the buffer.
abbrev pub settled : PendingReplies → PendingReplies
settled pending = record pending { buffered = length pending.bytes }

-- A piece comes after them.
abbrev pub appended : PendingReplies → Bytes → PendingReplies
appended pending piece = record pending { bytes = pending.bytes ++ piece }

-- The buffer had room for a read, of 4,096 bytes;
abbrev pub with_room : PendingReplies → PendingReplies
with_room pending = record pending { held = max pending.held (pending.buffered + 4096) }

-- and this piece was read into it.
abbrev pub after_read : PendingReplies → Bytes → PendingReplies
after_read pending piece = record (with_room (appended pending piece)) {
  buffered = pending.buffered + length piece;
}

-- A piece comes after them, and the replies that were taken may leave the buffer.
abbrev pub pushed : PendingReplies → Bytes → PendingReplies
pushed pending piece = record pending {
  bytes = pending.bytes ++ piece;
  buffered = held_after_piece pending.buffered (length pending.bytes) (length piece);
  held = max pending.held (pending.buffered + length piece);
}

-- The pending bytes have left the buffer too.
abbrev pub cleared : PendingReplies → PendingReplies
cleared pending = record pending { bytes = []; buffered = 0 }

-- a part of a reply, shorter than a reply may be
abbrev pub IsShortPart : Option ℕ → Bytes → Type 0
IsShortPart limit bytes = IsPartial bytes × IfSome limit (λ limit. length bytes < limit)

-- There is only a part of a reply, shorter than a reply may be.
pub record HasNoReply (before after : PendingReplies) : Type 0 where
  pub partial : IsPartial before.bytes
  pub same : after.bytes ≡ before.bytes
  pub short : IfSome before.limit (λ limit. length after.bytes < limit)

-- The first reply is taken away: it is not too long.
pub record TakesFirst (before : PendingReplies) (reply : ℕ × List Bytes)
    (after : PendingReplies) : Type 0 where
  pub takes : TakesReply before.bytes reply after.bytes
  pub within : IfSome before.limit (λ limit. takes.used ≤ limit)

-- The bytes begin with this reply, which has this code and so many bytes, and is not too long.
pub record BeginsWithReply (limit : Option ℕ) (bytes : Bytes) (code used : ℕ) : Type 0 where
  pub lines : List Bytes
  pub front : FrontReply bytes code lines used
  pub within : IfSome limit (λ limit. used ≤ limit)

-- The first reply is found where it is; or there is only a part of one; or an error.
abbrev pub FindsFirst : Option ℕ → Bytes → Result (Option FirstReply) NextReplyError → Type 0
FindsFirst limit bytes (Ok None) = IsShortPart limit bytes
FindsFirst limit bytes (Ok (Some reply)) = BeginsWithReply limit bytes reply.code reply.length
FindsFirst limit bytes (Err Malformed) = IsMalformed (within_limit limit bytes)
FindsFirst limit bytes (Err TooLong) = IsTooLongReply limit bytes
FindsFirst limit bytes (Err OutOfMemory) = ⊥

-- How many of the n bytes that a reply may have are scanned: those from the offset on, to the end
-- of the reply that is found, or else all. Where all are, none has to be scanned again. A line that
-- opens no reply is scanned again.
abbrev pub FindsByScan : Search → ℕ → Result (Option FirstReply) NextReplyError → Search
    → Type 0
FindsByScan before n (Ok (Some reply)) after =
    (after.scanned + before.offset ≡ before.scanned + reply.length) × (reply.length ≤ n)
FindsByScan before n (Err Malformed) after =
    after.scanned + before.offset ≤ before.scanned + n
FindsByScan before n (Err OutOfMemory) after = ⊥
FindsByScan before n result after =
    (after.scanned + before.offset ≡ before.scanned + n) × (after.offset ≡ n)

-- what an error means for the pending bytes: memory is asked for only where a complete reply is
-- there
abbrev pub HasError : Option ℕ → Bytes → NextReplyError → Type 0
HasError limit bytes Malformed = IsMalformed (within_limit limit bytes)
HasError limit bytes TooLong = IsTooLongReply limit bytes
HasError limit bytes OutOfMemory = HasFront (within_limit limit bytes)

-- a reply, if any, or an error
abbrev pub NextReply : Type 0 → Type 0
NextReply Error = Result (Option ReceivedReply) Error

-- The first reply is taken; or there is only a part of one; or there is an error, and all bytes
-- stay pending.
abbrev pub TakesNextReply : PendingReplies → NextReply NextReplyError → PendingReplies → Type 0
TakesNextReply before result after = MatchResult result
    (λ next. MatchOption next
    (HasNoReply before after)
    (λ reply. TakesFirst before (content reply) after))
    (λ error. HasError before.limit before.bytes error × (after.bytes ≡ before.bytes))

-- the reply of this code and these lines is returned, or its lines were out of memory
abbrev pub IsReturned : ℕ → List Bytes → NextReply NextReplyError → Type 0
IsReturned code lines result = MatchResult result
    (λ next. MatchOption next ⊥ (λ reply. content reply ≡ (code, lines)))
    (λ error. error ≡ OutOfMemory)

-- how many bytes the buffer holds then: the pending ones only, where there is no reply
abbrev pub held_after : {E : Type 0} → PendingReplies → NextReply E → PendingReplies → ℕ
held_after before (Ok None) after = length after.bytes
held_after before (Ok (Some _)) after = before.buffered
held_after before (Err _) after = before.buffered

-- the error that a refusal is
abbrev pub error_of : ReadReplyError → NextReplyError
error_of refusal.Malformed = Malformed
error_of refusal.OutOfMemory = OutOfMemory
