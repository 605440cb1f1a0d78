-- The pending bytes of a decoder, and their first line.
use Rattle.std.specs.Prelude.{◌≡◌, ℕ, ◌+◌, ◌-◌, ◌^◌, ◌≤◌, Bool, true, false, if◌then◌else◌, is_some, List, [], ◌∷◌, ◌++◌, length, min, max, take, drop, Option, Some, None, Result, Ok, Err, MatchResult, MatchOption, IfSome}
use Rattle.unftp_control_defs.specs.Bytes.{Bytes, LF, Lacks}
use Rattle.unftp_control_defs.specs.Buffer.{held_after_piece}
use Rattle.unftp_control_defs.specs.Events.{FtpEvent, exceeds}
use Rattle.unftp_control_defs.specs.Lines.{IsLine, lines_of}
use Rattle.unftp_control_codecs.specs.Memory.{MayTakeMemory}
use Rattle.unftp_control_defs.specs.TakingSteps.{TakesEvent}
pub use Rattle.unftp_control_codecs.specs.FirstLine.{kept_length}
use Rattle.unftp_control_codecs.specs.Finder.{Finder, HasCompared, codec_of}
use Rattle.unftp_control_codecs.specs.FirstLine.{IsDropped}
use Rattle.unftp_control_serve.specs.ClientLines.{after_front_line, front_line, unless_too_long}
use Rattle.unftp_control_serve.specs.declared.decoder.ClientLine.{ClientLine}
use Rattle.unftp_control_serve.specs.declared.decoder.ClientLine.TheVariants.{Complete, TooLong}
use Rattle.unftp_control_serve.specs.declared.decoder.First.{First}
use Rattle.unftp_control_serve.specs.declared.decoder.First.TheVariants as first
use Rattle.unftp_control_serve.specs.declared.event.Event.{Event}
use Rattle.unftp_control_serve.specs.EventMeaning.{event_meant, refuses_length}

-- a number as 64 bits hold it, the greatest for each greater one
abbrev pub saturating_u64 : ℕ → ℕ
saturating_u64 n = min n (2 ^ 64 - 1)

pub record Pending : Type 0 where
  -- the bytes after the last line that was taken, and how many of them are kept: those before them
  -- were dropped, since their line is longer than the limit
  pub bytes : Bytes
  pub kept : ℕ
  pub limit : Option ℕ
  -- whether their first line was found, and is to be taken
  pub found : Bool
  -- the line that was taken last, where nothing was called since that changes the decoder; empty
  -- where it is too long
  pub line : Bytes
  -- how many bytes were compared with a line feed since the buffer was made, and how many of those
  -- that are kept have not been
  pub scanned : ℕ
  pub unscanned : ℕ
  -- how many bytes the buffer holds, with those of the lines that are taken, and the most that it
  -- has held
  pub buffered : ℕ
  pub held : ℕ

-- no bytes so far
abbrev pub no_bytes : Option ℕ → Pending
no_bytes limit = record {
  bytes = [];
  kept = 0;
  limit = limit;
  found = false;
  line = [];
  scanned = 0;
  unscanned = 0;
  buffered = 0;
  held = 0;
}

-- those that are kept
abbrev pub kept_bytes : Pending → Bytes
kept_bytes pending = drop (length pending.bytes - pending.kept) pending.bytes

-- The lines that were taken have left the buffer.
abbrev pub settled : Pending → Pending
settled pending = record pending { line = []; buffered = pending.kept }

-- A piece comes after them.
abbrev pub pushed : Pending → Bytes → Pending
pushed pending piece = record pending {
  bytes = pending.bytes ++ piece;
  kept = pending.kept + length piece;
  line = [];
  unscanned = pending.unscanned + length piece;
  buffered = held_after_piece pending.buffered pending.kept (length piece);
  held = max pending.held (pending.buffered + length piece);
}

-- The pending bytes have left the buffer too.
abbrev pub cleared : Pending → Pending
cleared pending = record pending {
  bytes = [];
  kept = 0;
  found = false;
  line = [];
  unscanned = 0;
  buffered = 0;
}

-- ---- their first line

-- how many bytes are kept where it is this, how many of them are not scanned where so many are, and
-- how many the buffer holds: those of a line that is too long are dropped, also of an incomplete
-- one
abbrev pub kept_as : Pending → Option ClientLine → ℕ
kept_as pending None = kept_length pending.limit pending.bytes
kept_as pending (Some Complete) = pending.kept
kept_as pending (Some TooLong) = length (after_front_line pending.bytes)

abbrev pub unscanned_as : Pending → Option ClientLine → ℕ → ℕ
unscanned_as pending None scanned = 0
unscanned_as pending (Some line) scanned = pending.scanned + pending.unscanned - scanned

abbrev pub buffered_as : Pending → Option ClientLine → ℕ
buffered_as pending None = kept_length pending.limit pending.bytes
buffered_as pending (Some line) = pending.buffered

-- A search for it was made, and it is this; so many bytes are scanned then.
abbrev pub found_as : Pending → Option ClientLine → ℕ → Pending
found_as pending first scanned = record pending {
  kept = kept_as pending first;
  found = is_some first;
  line = [];
  scanned = scanned;
  unscanned = unscanned_as pending first scanned;
  buffered = buffered_as pending first;
}

-- the line that was found, as it is shown
abbrev pub line_in : Pending → Bytes
line_in pending =
    if pending.found then unless_too_long pending.limit (front_line pending.bytes) else []

-- The line that was found is taken.
abbrev pub without_line : Pending → Pending
without_line pending = record pending {
  bytes = after_front_line pending.bytes;
  kept = length (after_front_line pending.bytes);
  found = false;
  line = unless_too_long pending.limit (front_line pending.bytes);
}

-- ---- their events

-- There is no line, and all bytes are scanned; none are kept of a line that is too long.
pub record FindsNoLine (before after : Pending) : Type 0 where
  pub unended : Lacks LF before.bytes
  pub same : after.bytes ≡ before.bytes
  pub all_scanned : after.unscanned ≡ 0
  pub kept : after.kept ≡ kept_length before.limit before.bytes

-- Of n bytes after a line fewer than a block were scanned, and so many were not.
abbrev pub IsSeenAhead : ℕ → ℕ → Type 0
IsSeenAhead unscanned n = (unscanned ≤ n) × (n ≤ unscanned + 31)

-- The first line is taken away, and this is its event. Few bytes after it are scanned.
pub record TakesLine (before : Pending) (event : FtpEvent) (after : Pending) : Type 0 where
  pub takes : TakesEvent before.limit before.bytes event after.bytes
  pub all_kept : after.kept ≡ length after.bytes
  pub few_scanned : IsSeenAhead after.unscanned (length after.bytes)

-- The first of these lines is within the limit, and its command may take memory.
abbrev pub FirstMayRunOut : Option ℕ → List Bytes → Type 0
FirstMayRunOut limit [] = ⊥
FirstMayRunOut limit (line ∷ lines) = (exceeds limit (length line) ≡ false) × MayTakeMemory line

-- So is the first line of these bytes.
abbrev pub MayRunOut : Option ℕ → Bytes → Type 0
MayRunOut limit bytes = FirstMayRunOut limit (lines_of bytes)

-- The same bytes are pending, and as many of them are kept.
pub record StaysPending (before after : Pending) : Type 0 where
  pub same : after.bytes ≡ before.bytes
  pub kept : after.kept ≡ before.kept

abbrev pub TakesNext : {E : Type 0} → Pending → Result (Option Event) E → Pending → Type 0
TakesNext before result after = MatchResult result
    (λ next. MatchOption next
    (FindsNoLine before after)
    (λ event. TakesLine before (event_meant event) after))
    (λ _. StaysPending before after)

-- how many bytes the buffer holds then: those that are kept, where there is no line
abbrev pub buffered_after : {E : Type 0} → Pending → Result (Option Event) E → Pending → ℕ
buffered_after before (Ok None) after = after.kept
buffered_after before (Ok (Some _)) after = before.buffered
buffered_after before (Err _) after = before.buffered

-- the line of a returned event, of the bytes that were taken: nothing of one that is too long
abbrev pub line_length : {E : Type 0} → Result (Option Event) E → ℕ → ℕ
line_length (Ok None) taken = 0
line_length (Ok (Some event)) taken = if refuses_length (event_meant event) then 0 else taken
line_length (Err _) taken = 0

-- the line of the event that was returned: the bytes that were taken, unless it is too long
abbrev pub line_after : {E : Type 0} → Pending → Result (Option Event) E → Pending → Bytes
line_after before result after =
    take (line_length result (length before.bytes - length after.bytes)) before.bytes

-- ---- what a decoder is in the code

abbrev pub is_found : First → Bool
is_found first.Unknown = false
is_found (first.Line n) = true
is_found first.TooLong = true

-- how many bytes that are kept the first line has, where it was found
abbrev pub line_end : First → ℕ
line_end first.Unknown = 0
line_end (first.Line n) = n
line_end first.TooLong = 0

-- of these bytes, after those that were dropped and after this line; the finder is after the first
-- line, where it was found
abbrev pub pending_of : Finder → First → Bytes → Bytes → Bytes → ℕ → ℕ → Pending
pending_of finder first dropped line bytes buffered held = record {
  bytes = dropped ++ bytes;
  kept = length bytes;
  limit = finder.limit;
  found = is_found first;
  line = line;
  scanned = finder.tests;
  unscanned = length bytes - (line_end first + finder.compared);
  buffered = buffered;
  held = held;
}

-- The first line is not known; or it has so many of the bytes that are kept; or all its bytes were
-- dropped. Of the bytes after it fewer than a block were compared.
abbrev pub IsFirst : Finder → Bytes → Bytes → First → Type 0
IsFirst finder dropped bytes first.Unknown = IsDropped (codec_of finder) dropped
IsFirst finder dropped bytes (first.Line n) = (dropped ≡ []) × (n ≤ length bytes)
    × IsLine (take n bytes) × (exceeds finder.limit (length (take n bytes)) ≡ false)
    × (finder.skipping ≡ false) × (finder.compared ≤ 31)
IsFirst finder dropped bytes first.TooLong = IsLine dropped
    × (exceeds finder.limit (length dropped) ≡ true)
    × (finder.skipping ≡ false) × (finder.compared ≤ 31)

-- What is so of a decoder: the lines before `start` are taken, and the last of them has so many
-- bytes. There is room for as many bytes as the buffer has held.
pub record IsDecoder (finder : Finder) (first : First) (dropped buf : Bytes)
    (start line held capacity : ℕ) : Type 0 where
  pub start_within : start ≤ length buf
  pub line_within : line ≤ start
  pub compared_so_far : HasCompared finder (drop (line_end first) (drop start buf))
  pub first_is : IsFirst finder dropped (drop start buf) first
  pub limited : IfSome finder.limit (λ limit. 1 ≤ limit)
  pub no_more : length buf ≤ held
  pub room : held ≤ capacity
