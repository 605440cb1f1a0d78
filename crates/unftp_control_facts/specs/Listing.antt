-- The lines of a listing: of MLSD, with facts (RFC 3659, section 7.2), and of LIST, in the form of
-- `ls -l`, in UTC.
use Rattle.std.specs.Prelude.{◌≡◌, ℕ, ◌-◌, ◌*◌, ◌/◌, ◌%◌, ℤ, pos, negsuc, ◌-ℤ◌, ◌∷◌, ◌++◌, [], Bool, false, ◌==◌, nat_lt, if◌then◌else◌, codes, decimal, drop, length, replicate, take, Option, None, Some}
use Rattle.jiff_core.specs.declared.civil.datetime.DateTime.{DateTime}
use Rattle.jiff_core.specs.declared.timestamp.Timestamp.{Timestamp}
use Rattle.jiff_core.specs.DateTime.{civil_nanos}
use Rattle.unftp_control_defs.specs.Bytes.{Bytes, CR, DASH, LF, Lacks, SP, crlf}
use Rattle.unftp_control_facts.specs.Facts.{HasFacts, two_digits}
use Rattle.unftp_control_facts.specs.Files.{facts_of_file, kind_fact, kind_letter}
use Rattle.unftp_control_facts.specs.declared.file.FileStatus.{FileStatus}
use Rattle.unftp_control_facts.specs.declared.listing.LineError.{LineError}
use Rattle.unftp_control_facts.specs.declared.listing.LineError.TheVariants.{InvalidName, OutOfMemory}

-- The name has neither a carriage return nor a line feed.
abbrev pub IsOneLine : Bytes → Type 0
IsOneLine name = Lacks CR name × Lacks LF name

-- why there is no line of this name
abbrev pub HasNoLine : Bytes → LineError → Type 0
HasNoLine name InvalidName = ¬ IsOneLine name
HasNoLine name OutOfMemory = IsOneLine name

-- the end of each line
abbrev pub ended_name : Bytes → Bytes
ended_name name = SP ∷ (name ++ crlf)

-- the line of MLSD: the facts, a space, the name and CR LF
abbrev pub IsFactsLine : FileStatus → Bytes → Bytes → Type 0
IsFactsLine file name line = (facts : Bytes)
    × HasFacts (kind_fact file.kind) (facts_of_file file) facts × (line ≡ facts ++ ended_name name)

-- the letter of a bit that is set
abbrev pub bit_letter : ℕ → ℕ → ℕ
bit_letter bits letter = if bits % 2 == 1 then letter else DASH

-- r, w and x, by the three lowest bits
abbrev pub rwx : ℕ → Bytes
rwx bits = bit_letter (bits / 4) 114 ∷ bit_letter (bits / 2) 119 ∷ bit_letter bits 120 ∷ []

-- of the user, of the group and of others
abbrev pub mode_text : ℕ → Bytes
mode_text mode = rwx (mode / 64) ++ rwx (mode / 8) ++ rwx mode

-- a text at the right of a column, and at the left of one; a longer text is as it is
abbrev pub right : ℕ → Bytes → Bytes
right width text = replicate (width - length text) SP ++ text

abbrev pub left : ℕ → Bytes → Bytes
left width text = text ++ replicate (width - length text) SP

-- the number of a user or a group, or `ftp` in place of 0
abbrev pub owner : ℕ → Bytes
owner id = if id == 0 then codes "ftp" else decimal id

-- the three letters of a month, from 1 to 12
abbrev pub month_name : ℕ → Bytes
month_name month = take 3 (drop (3 * (month - 1)) (codes "JanFebMarAprMayJunJulAugSepOctNovDec"))

-- a year in four digits; a year before 0 is written as 0000
abbrev pub year_text : ℤ → Bytes
year_text (pos year) = two_digits (year / 100) ++ two_digits (year % 100)
year_text (negsuc year) = codes "0000"

-- a recent time has the time of day, and any other the year
abbrev pub clock_or_year : Bool → DateTime → Bytes
clock_or_year recent civil = if recent
    then SP ∷ (two_digits civil.time.hour ++ codes ":" ++ two_digits civil.time.minute)
    else SP ∷ SP ∷ year_text civil.date.year

-- the month, the day, and the time of day or the year
abbrev pub date_text : Bool → DateTime → Bytes
date_text recent civil = month_name civil.date.month ++ SP ∷ right 2 (decimal civil.date.day)
    ++ clock_or_year recent civil

-- An age in nanoseconds is recent where it is at least 0 and less than 182 days.
abbrev pub is_recent : ℤ → Bool
is_recent (pos age) = nat_lt age 15_724_800_000_000_000
is_recent (negsuc _) = false

-- the date of an instant, its fraction of a second left out
abbrev pub IsDate : ℤ → ℤ → Bytes → Type 0
IsDate now nanosecond text = (civil : DateTime) × (civil_nanos civil ≡ nanosecond)
    × (text ≡ date_text (is_recent (now -ℤ nanosecond)) civil)

-- an unknown time is listed as the Unix epoch
abbrev pub nanosecond_or_epoch : Option Timestamp → ℤ
nanosecond_or_epoch None = pos 0
nanosecond_or_epoch (Some instant) = instant.nanosecond

-- what is before the size
abbrev pub list_front : FileStatus → Bytes
list_front file = kind_letter file.kind ∷ (mode_text file.mode
    ++ SP ∷ right 3 (decimal file.links)
    ++ SP ∷ left 8 (owner file.uid) ++ SP ∷ left 8 (owner file.gid))

-- a line of LIST with this date and this name
abbrev pub list_text : FileStatus → Bytes → Bytes → Bytes
list_text file date name = list_front file ++ SP ∷ right 12 (decimal file.size) ++ SP ∷ date
    ++ ended_name name

-- the line of LIST, in the form of `ls -l`
abbrev pub IsListLine : FileStatus → ℤ → Bytes → Bytes → Type 0
IsListLine file now name line = (date : Bytes)
    × IsDate now (nanosecond_or_epoch file.modified) date × (line ≡ list_text file date name)
