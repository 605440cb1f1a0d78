-- The facts of a file (RFC 3659, section 7.5), each ended by a semicolon, in the reply to MLST and
-- in lines of MLSD.
use Rattle.std.specs.Prelude.{◌≡◌, ℕ, ◌+◌, ◌/◌, ◌%◌, ℤ, pos, negsuc, ◌∷◌, ◌++◌, [], Bool, nat_lt, if◌then◌else◌, codes, decimal, Option, None, Some}
use Rattle.jiff_core.specs.declared.civil.datetime.DateTime.{DateTime}
use Rattle.jiff_core.specs.declared.timestamp.Timestamp.{Timestamp}
use Rattle.jiff_core.specs.DateTime.{civil_nanos}
use Rattle.unftp_control_defs.specs.Bytes.{Bytes}

-- a number below 100 in two digits
abbrev pub two_digits : ℕ → Bytes
two_digits n = (48 + n / 10) ∷ (48 + n % 10) ∷ []

-- a civil second as YYYYMMDDHHMMSS (RFC 3659, section 2.3), where its year is not before 0
abbrev pub time_text : ℤ → DateTime → Option Bytes
time_text (negsuc year) civil = None
time_text (pos year) civil =
    Some (two_digits (year / 100) ++ two_digits (year % 100) ++ two_digits civil.date.month
    ++ two_digits civil.date.day
    ++ two_digits civil.time.hour ++ two_digits civil.time.minute ++ two_digits civil.time.second)

-- the text of the civil time of UTC that an instant is, its fraction of a second left out
abbrev pub IsTimeText : ℤ → Option Bytes → Type 0
IsTimeText nanosecond text =
    (civil : DateTime) × (civil_nanos civil ≡ nanosecond) × (text ≡ time_text civil.date.year civil)

-- that text, of an instant that may not be known
abbrev pub IsModified : Option Timestamp → Option Bytes → Type 0
IsModified None text = text ≡ None
IsModified (Some instant) text = IsTimeText instant.nanosecond text

-- the fact of a time, where there is one
abbrev pub modify_fact : Option Bytes → Bytes
modify_fact None = []
modify_fact (Some text) = codes "modify=" ++ text ++ codes ";"

-- the fact of a type
abbrev pub type_fact : Bool → Bytes
type_fact is_dir = if is_dir then codes "type=dir;" else codes "type=file;"

-- an identity, where it is above 0
abbrev pub id_fact : Bytes → ℕ → Bytes
id_fact name id = if nat_lt 0 id then name ++ decimal id ++ codes ";" else []

-- what is known of a file
pub record FileFacts : Type 0 where
  pub is_dir : Bool
  pub size : ℕ
  pub modified : Option Timestamp
  pub uid : ℕ
  pub gid : ℕ

-- the facts, of which the first is that of the type
abbrev pub HasFacts : Bytes → FileFacts → Bytes → Type 0
HasFacts first file facts =
    (time : Option Bytes) × IsModified file.modified time
    × (facts ≡ first ++ codes "size=" ++ decimal file.size ++ codes ";"
    ++ modify_fact time
    ++ id_fact (codes "unix.uid=") file.uid ++ id_fact (codes "unix.gid=") file.gid)

-- the facts of a file that is shown as a directory or as a file
abbrev pub IsFacts : FileFacts → Bytes → Type 0
IsFacts file = HasFacts (type_fact file.is_dir) file
