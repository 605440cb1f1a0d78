-- What a caller in C gives of a file, and its lines in MLSD and in LIST.
use Rattle.std.specs.Prelude.{⊤, ◌≡◌, ◌⊎◌, ◌==◌, ℕ, ◌<◌, ℤ, pos, if◌then◌else◌, Option, None, Some, Ok, Err}
use Rattle.jiff_core.specs.Timestamp.{IsTimestampNanos, nanos_of_seconds}
use Rattle.jiff_core.specs.declared.timestamp.Timestamp.{Timestamp}
use Rattle.unftp_control_defs.specs.Bytes.{Bytes}
use Rattle.unftp_control_facts.specs.Listing.{IsFactsLine, IsListLine, IsOneLine}
use Rattle.unftp_control_facts.specs.declared.file.FileKind.{FileKind}
use Rattle.unftp_control_facts.specs.declared.file.FileKind.TheVariants as kind
use Rattle.unftp_control_facts.specs.declared.file.FileStatus.{FileStatus}
use Rattle.unftp_control_facts.specs.declared.listing.LineError.{LineError}
use Rattle.unftp_control_facts.specs.declared.listing.LineError.TheVariants as why
use Rattle.unftp_control_c.specs.Areas.{Made}
use Rattle.unftp_control_c.specs.declared.facts.File.{File}
use Rattle.unftp_control_c.specs.declared.status.Status.{Status}
use Rattle.unftp_control_c.specs.declared.status.Status.TheVariants.{InvalidArgument, OutOfMemory}

-- what has this number
abbrev pub kind_of : ℕ → Option FileKind
kind_of number = if number == 0 then Some kind.File else (if number == 1 then Some kind.Directory else
    (if number == 2 then Some kind.Link else (if number == 3 then Some kind.Pipe else
    (if number == 4 then Some kind.Socket else (if number == 5 then Some kind.CharacterDevice else
    (if number == 6 then Some kind.BlockDevice else None))))))

-- the instant is this second, and a second that is an instant
abbrev pub IsInstant : ℤ → Timestamp → Type 0
IsInstant second instant = instant.nanosecond ≡ nanos_of_seconds second

abbrev pub IsSecond : ℤ → Type 0
IsSecond second = IsTimestampNanos (nanos_of_seconds second)

-- when the file was modified, where that is known
abbrev pub second_of : File → Option ℤ
second_of given = if given.has_modified == 0 then None else Some given.modified

abbrev pub IsTime : Option ℤ → Option Timestamp → Type 0
IsTime None None = ⊤
IsTime (Some second) (Some instant) = IsInstant second instant
IsTime _ _ = ⊥

-- the time is not known, or an instant
abbrev pub HasTime : File → Type 0
HasTime given = (given.has_modified ≡ 0) ⊎ IsSecond given.modified

-- What is given of a file can be in a line: its kind has a number, and its time is an instant.
abbrev pub CanBeTold : File → Type 0
CanBeTold given = (given.kind < 7) × HasTime given

-- the same in the types of the library
pub record IsStatusOf (given : File) (file : FileStatus) : Type 0 where
  pub kind : kind_of given.kind ≡ Some file.kind
  pub mode : file.mode ≡ given.mode
  pub links : file.links ≡ given.links
  pub uid : file.uid ≡ given.uid
  pub gid : file.gid ≡ given.gid
  pub size : file.size ≡ given.size
  pub modified : IsTime (second_of given) file.modified

-- why a name has no line
abbrev pub name_status : LineError → Status
name_status why.InvalidName = InvalidArgument
name_status why.OutOfMemory = OutOfMemory

-- why there is no line: an invalid argument exactly where `HasLine` doesn't hold, or out of memory
abbrev pub IsNoLine : Type 0 → Status → Type 0
IsNoLine HasLine InvalidArgument = ¬ HasLine
IsNoLine HasLine OutOfMemory = HasLine
IsNoLine HasLine _ = ⊥

-- the line of MLSD, or why there is none
abbrev pub HasFactsLine : File → Bytes → Made → Type 0
HasFactsLine given name (Ok line) = (CanBeTold given × IsOneLine name)
    × ((file : FileStatus) × IsStatusOf given file × IsFactsLine file name line)
HasFactsLine given name (Err status) = IsNoLine (CanBeTold given × IsOneLine name) status

-- the line of LIST at this time, or why there is none
abbrev pub HasListLine : File → ℤ → Bytes → Made → Type 0
HasListLine given now name (Ok line) = (IsSecond now × CanBeTold given × IsOneLine name)
    × ((file : FileStatus) × IsStatusOf given file
    × IsListLine file (nanos_of_seconds now) name line)
HasListLine given now name (Err status) =
    IsNoLine (IsSecond now × CanBeTold given × IsOneLine name) status

-- a file with zeros only, for the examples
abbrev pub untold : File
untold = record {
  size = 0;
  modified = pos 0;
  has_modified = 0;
  kind = 0;
  mode = 0;
  links = 0;
  uid = 0;
  gid = 0;
}
