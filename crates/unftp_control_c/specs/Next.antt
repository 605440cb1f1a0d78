-- What a call of `unftp_next` is given, and what it leaves.
use Rattle.std.specs.Prelude.{◌≡◌, ℕ, ◌+◌, ◌-◌, ◌<◌, ◌==◌, ◌&&◌, ◌||◌, ◌⊎◌, Bool, true, false, if◌then◌else◌, [], ◌∷◌, ◌++◌, length, take, drop, nat_le, nat_lt, bytes_eq, Option, None, Some, unwrap_or}
use Rattle.std.specs.Str.{IsUtf8}
use Rattle.unftp_control_defs.specs.Bytes.{Bytes, crlf}
use Rattle.unftp_control_defs.specs.Events.{FtpEvent, Command, Refused, event_of, line_too_long}
use Rattle.unftp_control_defs.specs.Said.{value_bytes}
use Rattle.unftp_control_defs.specs.Verbs.{upper}
use Rattle.unftp_control_defs.specs.FtpCommand.{Outcome, number, Said, said}
use Rattle.unftp_control_defs.specs.Outcome.{outcome}
use Rattle.unftp_control_codecs.specs.Memory.{OutcomeMayTakeMemory, MayTakeMemory}
use Rattle.unftp_control_codecs.specs.Codec.{Codec}
use Rattle.unftp_control_codecs.specs.FirstLine.{first_line, goes_on, reset}
use Rattle.unftp_control_codecs.specs.declared.FirstLine.{FirstLine}
use Rattle.unftp_control_codecs.specs.declared.FirstLine.TheVariants.{Incomplete, TooLong, Complete}
use Rattle.unftp_control_c.specs.declared.next.Connection.{Connection}
use Rattle.unftp_control_c.specs.declared.next.Given.{Given as CodeGiven}
use Rattle.unftp_control_c.specs.declared.next.Line.{Line}
use Rattle.unftp_control_c.specs.declared.status.Status.{Status}
use Rattle.unftp_control_c.specs.declared.status.Status.TheVariants.{More, OutOfMemory, NoRoom, InvalidArgument}
use Rattle.unftp_control_c.specs.Numbers.{status_number, fault_status}
use Rattle.unftp_control_commands.specs.Areas.{overwritten}

pub record NextCall : Type 0 where
  -- what the caller keeps of the connection
  pub connection : Connection
  -- the pending bytes
  pub bytes : Bytes
  -- the area for what the line doesn't have as it is
  pub area : Bytes

pub record Left : Type 0 where
  pub result : ℕ
  pub connection : Connection
  pub area : Bytes
  -- how many bytes are used up, how long the name and the value are, and where the value is
  pub line : Line

abbrev pub call_with : Connection → Bytes → Bytes → NextCall
call_with connection bytes area =
    record { connection = connection; bytes = bytes; area = area }

abbrev pub left_with : ℕ → Connection → Bytes → Line → Left
left_with result connection area line =
    record { result = result; connection = connection; area = area; line = line }

-- the limit of a line's bytes, or of a reply's, where there is one
abbrev pub line_limit : ℕ → Option ℕ
line_limit limit = if limit == 0 then None else Some limit

-- The offset is within so many bytes. It is 0 where bytes of the first line were dropped.
abbrev pub is_valid : Connection → ℕ → Bool
is_valid connection n = nat_le connection.offset n
    && (connection.skipping == 0 || (connection.skipping == 1 && connection.offset == 0))

-- the codec that goes on where the last call stopped: it has scanned nothing itself
abbrev pub codec_of : Connection → Codec
codec_of connection = record {
  place = connection.offset;
  tests = 0;
  limit = line_limit connection.limit;
  skipping = connection.skipping == 1;
}

-- the first line of the pending bytes, if it is complete
abbrev pub first_of : NextCall → FirstLine
first_of call = first_line (codec_of call.connection) call.bytes

-- where the codec then is
abbrev pub next_codec : NextCall → Codec
next_codec call = goes_on (codec_of call.connection) call.bytes

-- how many bytes a call scans for a line feed
abbrev pub scans : NextCall → ℕ
scans call = (next_codec call).tests

-- the next call goes on where the codec is
abbrev pub resumed : Connection → Codec → Connection
resumed connection codec =
    record connection { offset = codec.place; skipping = if codec.skipping then 1 else 0 }

-- it goes on at the start of a line
abbrev pub at_next_line : Connection → Connection
at_next_line connection = resumed connection (reset (codec_of connection))

-- nothing is used up, and no name and value are given
abbrev pub no_lengths : Line
no_lengths = record { used = 0; name_len = 0; value_len = 0; value_at = 0 }

-- so many bytes are used up, and no name and value are given
abbrev pub used_up : NextCall → Status → ℕ → Connection → Left
used_up call status n connection =
    left_with (status_number status) connection call.area (record no_lengths { used = n })

-- nothing changes
abbrev pub kept : NextCall → Status → Left
kept call status = used_up call status 0 call.connection

-- What a caller is given for a line: the number of a command, the name that the number doesn't say,
-- of a subcommand of SITE or of another verb, and the value.
pub record Given : Type 0 where
  pub number : ℕ
  pub name : Bytes
  pub value : Bytes

-- what the code holds of it
abbrev pub given_meant : CodeGiven → Given
given_meant given =
    record { number = given.number; name = upper given.name.now; value = given.value.now }

-- what is said of a command, with an empty value where it has none
abbrev pub given_of : Said → Given
given_of parts = record {
  number = number parts.verb;
  name = parts.name;
  value = unwrap_or (value_bytes parts.value) [];
}

-- the event of a line, as it has to be given
abbrev pub given_for : FtpEvent → Given
given_for (Command command) = given_of (said command)
given_for (Refused fault) =
    record { number = status_number (fault_status fault); name = []; value = [] }

-- whether bytes end with these
abbrev pub has_end : Bytes → Bytes → Bool
has_end bytes end = bytes_eq end (drop (length bytes - length end) bytes)

-- a line without its end, CR LF or LF
abbrev pub line_text : Bytes → Bytes
line_text line = take (length line - (if has_end line crlf then 2 else 1)) line

-- Where a line has this value as it is: right before its end, after another byte. Else it is 0.
abbrev pub value_place : Bytes → Bytes → ℕ
value_place line [] = 0
value_place line (b ∷ value) = if has_end (line_text line) (b ∷ value)
    then length (line_text line) - length (b ∷ value)
    else 0

-- what is written to the area: the name, and the value where the line doesn't have it
abbrev pub written_for : Bytes → Given → Bytes
written_for line given =
    given.name ++ (if nat_lt 0 (value_place line given.value) then [] else given.value)

-- so many bytes of the line are used up, and these are the lengths and the place
abbrev pub lengths_of : ℕ → Bytes → Given → Line
lengths_of n line given = record {
  used = n;
  name_len = length given.name;
  value_len = length given.value;
  value_at = value_place line given.value;
}

-- The line is used up, and given.
abbrev pub given_left : NextCall → Bytes → Given → Left
given_left call line given = left_with given.number (at_next_line call.connection)
    (overwritten (written_for line given) call.area) (lengths_of (length line) line given)

-- how much room an area needs for what is written
abbrev pub needed_room : Line → ℕ
needed_room line = line.name_len + (if nat_lt 0 line.value_at then 0 else line.value_len)

-- Nothing is used up, and so much room is needed.
abbrev pub without_room : NextCall → Bytes → Given → Left
without_room call line given = record (kept call NoRoom) { line = lengths_of 0 line given }

-- A line is given where the area has room for what is written.
abbrev pub gives : NextCall → Bytes → Given → Left
gives call line given = if nat_le (length (written_for line given)) (length call.area)
    then given_left call line given
    else without_room call line given

-- A caller finds the name at the start of the area, and the value where it is: in the pending
-- bytes, or after the name.
abbrev pub name_in : Left → Bytes
name_in left = take left.line.name_len left.area

abbrev pub value_in : Bytes → Left → Bytes
value_in bytes left = take left.line.value_len (if nat_lt 0 left.line.value_at
    then drop left.line.value_at bytes
    else drop left.line.name_len left.area)

-- a command of this number has the bytes that were sent as its value: USER, PASS, ACCT, STAT
abbrev pub has_any_bytes : ℕ → Bool
has_any_bytes number = number == 1 || number == 2 || number == 3 || number == 5

-- What is given of a command is UTF-8: its name, and its value, but where that has any bytes.
abbrev pub AreTexts : ℕ → Bytes → Bytes → Type 0
AreTexts number name value = IsUtf8 name × (has_any_bytes number ≡ false → IsUtf8 value)

-- the name and the value that a call gives of a command, where it gives one
abbrev pub HasTexts : Bytes → Left → Type 0
HasTexts bytes left =
    left.result < 101 → AreTexts left.result (name_in left) (value_in bytes left)

-- Where no line is complete, the bytes stay, or are dropped where the line is too long already. A
-- line that is too long is given as such, whatever it holds, and any other as its outcome.
abbrev pub by_first_line : NextCall → FirstLine → Left
by_first_line call (Incomplete n) =
    used_up call More n (resumed call.connection (next_codec call))
by_first_line call (TooLong n) =
    gives call (take n call.bytes) (given_for (Refused line_too_long))
by_first_line call (Complete n) =
    gives call (take n call.bytes) (given_for (event_of (outcome (take n call.bytes))))

-- what a call leaves, where memory is there
abbrev pub next_of : NextCall → Left
next_of call = if is_valid call.connection (length call.bytes)
    then by_first_line call (first_of call)
    else kept call InvalidArgument

-- a complete line that may take memory
abbrev pub LineMayTakeMemory : NextCall → Type 0
LineMayTakeMemory call = (n : ℕ) × (is_valid call.connection (length call.bytes) ≡ true)
    × (first_of call ≡ Complete n) × MayTakeMemory (take n call.bytes)

-- The command is given. Memory may run out for one that holds some, and whose value has to be put
-- together.
abbrev pub GivesCommand : NextCall → Bytes → Outcome → Type 0 → Left → Type 0
GivesCommand call line answer in_place left =
    (left ≡ gives call line (given_for (event_of answer)))
    ⊎ (¬ in_place × OutcomeMayTakeMemory answer × (left ≡ kept call OutOfMemory))

-- what is left after a complete line that is not too long
abbrev pub LeavesLine : NextCall → Bytes → Left → Type 0
LeavesLine call line left =
    (left ≡ gives call line (given_for (event_of (outcome line))))
    ⊎ (MayTakeMemory line × (left ≡ kept call OutOfMemory))

-- What a call leaves. Only for a complete line that may take memory may it be out of memory
-- instead, and then nothing changes.
abbrev pub Leaves : NextCall → Left → Type 0
Leaves call left = (left ≡ next_of call)
    ⊎ (LineMayTakeMemory call × (left ≡ kept call OutOfMemory))
