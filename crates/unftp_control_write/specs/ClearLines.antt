-- Lines that a proxy lets a server see. Servers differ in how they read a bare CR, a NUL, Telnet's
-- bytes (RFC 854) or a tab after the verb. Some send no reply to a line without a verb, with one of
-- these in it, or that ends by only LF: each later reply would be given to another line. A clear
-- line is none of these. That all servers read it alike isn't said: four don't with `TYPE  I`, NOOP
-- with spaces or 5,000 bytes after it, `SIZE ~/a`, and `MDTM 20010203040506 a`.
use Rattle.std.specs.Prelude.{ℕ, ◌-◌, Bool, not, ◌==◌, ◌&&◌, ◌||◌, bytes_eq, drop, length, take}
use Rattle.std.specs.Char.{is_ascii_alphanumeric}
use Rattle.std.specs.List.{list_all}
use Rattle.unftp_control_defs.specs.Bytes.{Bytes, CR, LF, NUL, crlf}
use Rattle.unftp_control_defs.specs.Verbs.{verb_of}

-- the byte that begins a command of Telnet's
abbrev pub IAC : ℕ
IAC = 255

-- no byte that servers are known to read in different ways, in a line
abbrev pub is_plain : ℕ → Bool
is_plain b = not ((b == NUL || b == LF) || (b == CR || b == IAC))

-- it has a verb, and that consists of letters and digits of ASCII
abbrev pub has_clear_verb : Bytes → Bool
has_clear_verb line =
    not (length (verb_of line) == 0) && list_all is_ascii_alphanumeric (verb_of line)

-- it is plain up to its end, which is CR LF
abbrev pub is_plain_line : Bytes → Bool
is_plain_line line = list_all is_plain (take (length line - 2) line)
    && bytes_eq (drop (length line - 2) line) crlf

-- The line has a clear verb, and is plain.
abbrev pub is_clear : Bytes → Bool
is_clear line = has_clear_verb line && is_plain_line line
