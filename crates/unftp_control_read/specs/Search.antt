-- How far the search for the reply at the start has come.
use Rattle.std.specs.Prelude.{◌≡◌, ◌≢◌, ◌<◌, ◌≤◌, ◌+◌, ◌-◌, ◌==◌, ⊤, ℕ, suc, Bool, true, false, Option, Some, None, List, ◌++◌, length, take, drop, slice_index}
use Rattle.unftp_control_defs.specs.Bytes.{Bytes, CR, LF}
use Rattle.unftp_control_defs.specs.ReplyReader.{LacksCrlf, with_crlf}
use Rattle.unftp_control_defs.specs.ComputedReply.{code_of, cuts_of, front_after, front_of, later_lines}
use Rattle.unftp_control_read.specs.Reading.{ReturnsFound}
use Rattle.unftp_control_read.specs.declared.search.Search.{Search}
use Rattle.unftp_control_read.specs.declared.FoundReply.{FoundReply}
use Rattle.unftp_control_read.specs.declared.FoundReply.TheVariants.{Whole, Partial, Malformed}

-- It goes on at these places, and has scanned nothing itself.
abbrev pub begun_at : ℕ → ℕ → Search
begun_at line offset = record { line = line; offset = offset; scanned = 0 }

-- there is no CR LF in the first n bytes
abbrev pub LacksCrlfUpTo : ℕ → Bytes → Type 0
LacksCrlfUpTo n bytes =
    (k : ℕ) → suc k < n → slice_index bytes k ≡ CR → slice_index bytes (suc k) ≢ LF

-- Some lines of a reply of several are passed, and these bytes are left, which say whether it goes
-- on, whatever follows.
abbrev pub GoesOnIn : Bytes → Bytes → Type 0
GoesOnIn bytes rest = (code : ℕ) × (3 ≤ length bytes) × (code_of (take 3 bytes) ≡ Some code)
    × (lines : List Bytes) × ((more : Bytes) → front_of (bytes ++ more)
    ≡ front_after code lines (later_lines (take 3 bytes) (cuts_of (rest ++ more))))

-- These bytes are left to search: all, where the first line is not passed.
abbrev pub IsBegun : Bool → Bytes → Bytes → Type 0
IsBegun true bytes rest = rest ≡ bytes
IsBegun false bytes rest = GoesOnIn bytes rest

-- the places are in order, and within so many bytes
abbrev pub IsSearchWithin : Search → ℕ → Type 0
IsSearchWithin search n = (search.line ≤ search.offset) × (search.offset ≤ n)

-- The search has come so far: the bytes from `line` on are left, and those of them before `offset`
-- have no CR LF.
pub record IsSearched (bytes : Bytes) (search : Search) : Type 0 where
  pub within : IsSearchWithin search (length bytes)
  pub begun : IsBegun (search.line == 0) bytes (drop search.line bytes)
  pub lacks : LacksCrlfUpTo (search.offset - search.line) (drop search.line bytes)

-- the first line of the bytes that are left
pub record IsAtLine (bytes : Bytes) (is_first : Bool) (line after : Bytes) : Type 0 where
  pub rest : Bytes
  pub begun : IsBegun is_first bytes rest
  pub within : length rest ≤ length bytes
  pub cut : rest ≡ with_crlf line ++ after
  pub is_line : LacksCrlf line

-- it ends the search, which finds this, or leaves the bytes after it
abbrev pub Steps : Bytes → Bytes → Option FoundReply → Type 0
Steps bytes after (Some found) = ReturnsFound bytes found
Steps bytes after None = GoesOnIn bytes after

-- a reply that is found ends before these bytes
abbrev pub EndsBefore : Bytes → Bytes → FoundReply → Type 0
EndsBefore bytes after (Whole code used) = used ≡ length bytes - length after
EndsBefore bytes after Partial = ⊥
EndsBefore bytes after Malformed = ⊤

-- How many of n bytes are scanned: those from the offset on, to the end of the reply that is found,
-- or where it is a part, all. Of a part none has to be scanned again. A line that opens no reply is
-- scanned again.
abbrev pub HasScanned : Search → ℕ → FoundReply → Search → Type 0
HasScanned before n (Whole code used) after = (after.scanned + before.offset ≡ before.scanned + used)
    × (used ≤ n)
HasScanned before n Partial after = (after.scanned + before.offset ≡ before.scanned + n)
    × (after.offset ≡ n)
HasScanned before n Malformed after = after.scanned + before.offset ≤ before.scanned + n
