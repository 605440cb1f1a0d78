-- What a call of `unftp_next_reply` is given, and what it leaves.
use Rattle.std.specs.Prelude.{◌≡◌, ◌≢◌, ◌<◌, ◌≤◌, ◌-◌, ◌==◌, ◌&&◌, ℕ, Bool, true, false, if◌then◌else◌, length, nat_le, Option, None, Some, Result, Ok, Err}
use Rattle.unftp_control_defs.specs.Bytes.{Bytes}
use Rattle.unftp_control_defs.specs.ReplyLimit.{within_limit}
use Rattle.unftp_control_read.specs.ReplyDecoding.{FindsFirst}
use Rattle.unftp_control_read.specs.ReplyLines.{FindsLine}
use Rattle.unftp_control_read.specs.Search.{IsSearched, begun_at}
use Rattle.unftp_control_read.specs.declared.decoder.FirstReply.{FirstReply}
use Rattle.unftp_control_read.specs.declared.errors.NextReplyError.{NextReplyError}
use Rattle.unftp_control_read.specs.declared.errors.NextReplyError.TheVariants as error
use Rattle.unftp_control_read.specs.declared.places.LinePlace.{LinePlace}
use Rattle.unftp_control_c.specs.declared.next_reply.ReplyLine.{ReplyLine}
use Rattle.unftp_control_c.specs.declared.next_reply.ReplySearch.{ReplySearch}
use Rattle.unftp_control_c.specs.declared.reply.FoundReply.{FoundReply}
use Rattle.unftp_control_c.specs.declared.status.Status.{Status}
use Rattle.unftp_control_c.specs.declared.status.Status.TheVariants.{Done, InvalidArgument, Malformed, More, OutOfMemory, ReplyTooLong}
use Rattle.unftp_control_c.specs.Next.{line_limit}
use Rattle.unftp_control_c.specs.Numbers.{status_number}

pub record ReplyCall : Type 0 where
  -- what the caller keeps of the search
  pub search : ReplySearch
  -- the pending bytes
  pub bytes : Bytes

pub record ReplyLeft : Type 0 where
  pub result : ℕ
  pub search : ReplySearch
  pub reply : FoundReply

abbrev pub reply_call : ReplySearch → Bytes → ReplyCall
reply_call search bytes = record { search = search; bytes = bytes }

abbrev pub reply_left : ℕ → ReplySearch → FoundReply → ReplyLeft
reply_left result search reply = record { result = result; search = search; reply = reply }

-- how many of the pending bytes a reply may have
abbrev pub seen_length : ReplyCall → ℕ
seen_length call = length (within_limit (line_limit call.search.limit) call.bytes)

-- the places are in order, and within so many bytes
abbrev pub is_valid_search : ReplySearch → ℕ → Bool
is_valid_search search n = nat_le search.line search.offset && nat_le search.offset n

-- The search has come so far in these bytes: in any, where both places are 0; and where a call has
-- left it, in the same bytes with any more after them.
abbrev pub IsSearchIn : ReplySearch → Bytes → Type 0
IsSearchIn search bytes = IsSearched (within_limit (line_limit search.limit) bytes)
    (begun_at search.line search.offset)

-- what is reported where no reply is found
abbrev pub no_reply : FoundReply
no_reply = record { used = 0; code = 0 }

-- what was found of the first reply
abbrev pub Found : Type 0
Found = Result (Option FirstReply) NextReplyError

-- as a status
abbrev pub found_status : Found → Status
found_status (Ok (Some first)) = Done
found_status (Ok None) = More
found_status (Err error.Malformed) = Malformed
found_status (Err error.TooLong) = ReplyTooLong
found_status (Err error.OutOfMemory) = OutOfMemory

-- and as its reply
abbrev pub found_reply : Found → FoundReply
found_reply (Ok (Some first)) = record { used = first.length; code = first.code }
found_reply (Ok None) = no_reply
found_reply (Err error) = no_reply

-- After a reply the search begins anew. Where more bytes are needed, or would be, all that a reply
-- may have are searched. At a line that opens no reply it stays.
abbrev pub LeavesSearch : ReplyCall → Found → ReplySearch → Type 0
LeavesSearch call (Ok (Some first)) after = after ≡ record call.search { line = 0; offset = 0 }
LeavesSearch call (Err error.Malformed) after = after ≡ call.search
LeavesSearch call found after = (after.limit ≡ call.search.limit)
    × (after.offset ≡ seen_length call) × IsSearchIn after call.bytes

-- Where a call stops: at the end of the reply, or of the bytes that a reply may have.
abbrev pub stops_at : ReplyCall → ReplyLeft → ℕ
stops_at call left =
    if left.result == status_number Done then left.reply.used else seen_length call

-- The first reply is found, or why there is none; there is one such answer for the bytes.
pub record FindsReply (call : ReplyCall) (left : ReplyLeft) : Type 0 where
  pub found : Found
  pub first : FindsFirst (line_limit call.search.limit) call.bytes found
  pub result_is : left.result ≡ status_number (found_status found)
  pub reply_is : left.reply ≡ found_reply found
  pub search : LeavesSearch call found left.search
  -- and the call has gone on where the last one stopped
  pub goes_on : call.search.offset ≤ stops_at call left

-- nothing changes
abbrev pub refused_search : ReplyCall → ReplyLeft
refused_search call = reply_left (status_number InvalidArgument) call.search no_reply

-- What a call leaves. It refuses exactly the places that are invalid, and finds the first reply
-- where the search has come so far in these bytes.
pub record LeavesReply (call : ReplyCall) (left : ReplyLeft) : Type 0 where
  pub refused : is_valid_search call.search (seen_length call) ≡ false
      → left ≡ refused_search call
  pub taken : is_valid_search call.search (seen_length call) ≡ true
      → left.result ≢ status_number InvalidArgument
  pub finds : IsSearchIn call.search call.bytes → FindsReply call left

-- the most bytes that a call scans for a line feed: those that no call before it has scanned
abbrev pub scans_reply : ReplyCall → ReplyLeft → ℕ
scans_reply call left = stops_at call left - call.search.offset

-- the place of a line, as the caller has it
abbrev pub place_of : ReplyLine → LinePlace
place_of line =
    record { text_at = line.text_at; text_len = line.text_len; next = line.next }

-- What a call of `unftp_next_reply_line` leaves: where the next line is; or nothing changes, since
-- no line is complete there, or there is no such place.
pub data LeavesReplyLine (bytes : Bytes) (before : ReplyLine) : ℕ → ReplyLine → Type 0 where
  line : {after : ReplyLine} → FindsLine bytes before.next (Some (place_of after))
      → LeavesReplyLine bytes before (status_number Done) after
  none : before.next ≤ length bytes → FindsLine bytes before.next None
      → LeavesReplyLine bytes before (status_number More) before
  refused : length bytes < before.next
      → LeavesReplyLine bytes before (status_number InvalidArgument) before
