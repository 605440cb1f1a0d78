-- The canonical line of a command, and the commands that a line gives (RFC 959, section 5.3; RFC
-- 854 for CR NUL). The line says what the command says, and so not what a reader has dropped: the
-- parameter of TYPE, or the options of LIST.
use Rattle.std.specs.Prelude.{◌≡◌, ◌≢◌, false, ◌==◌, if◌then◌else◌, [], ◌∷◌, ◌++◌, ⊤, Option, Some, None, option_map, codes}
use Rattle.std.specs.Char.{is_ascii_lowercase}
use Rattle.std.specs.List.{AllByRecursion}
use Rattle.unftp_control_defs.specs.Bytes.{Bytes, LF, SP, DASH, crlf, Lacks}
use Rattle.unftp_control_defs.specs.Verbs.{is_separator}
use Rattle.unftp_control_defs.specs.Values.{escaped}
use Rattle.unftp_control_defs.specs.Rules.{row_of}
use Rattle.unftp_control_defs.specs.Said.{name_and_value}
use Rattle.unftp_control_defs.specs.FtpCommand.{FtpCommand, User, Pass, Acct, TypeCode, List as Listing, Allo, Md5, Site, Other, Value, Raw, Text, maybe_text, unless_empty, verbs, said}

-- a word, a space and a parameter
abbrev pub spaced : Bytes → Bytes → Bytes
spaced word text = word ++ SP ∷ escaped text

-- only the word where there is none
abbrev pub with_optional : Bytes → Option Bytes → Bytes
with_optional word None = word
with_optional word (Some text) = spaced word text

-- only the word where the parameter is empty
abbrev pub spaced_unless_empty : Bytes → Bytes → Bytes
spaced_unless_empty word text = with_optional word (unless_empty text)

-- a path of LIST, marked as no option where it begins as one
abbrev pub with_option_end : Bytes → Bytes
with_option_end [] = []
with_option_end (b ∷ path) = if b == DASH then codes "-- " ++ b ∷ path else b ∷ path

-- The parameter that the line has: the command's value, which LIST may have to mark; and one for
-- TYPE and ALLO, which need it (RFC 959, section 4.1) and whose commands keep none.
abbrev pub line_parameter : FtpCommand → Option Bytes
line_parameter TypeCode = Some (codes "I")
line_parameter Allo = Some (codes "0")
line_parameter (Listing options path) = option_map with_option_end path
line_parameter command = (name_and_value command).1

-- a subcommand of SITE and its parameter; only SITE where there is neither
abbrev pub site_body : Bytes → Option Bytes → Bytes
site_body [] None = codes "SITE"
site_body name value = codes "SITE " ++ with_optional name value

-- the line without its CR LF
abbrev pub canonical_body : FtpCommand → Bytes
canonical_body (Md5 file) = site_body (codes "MD5") (Some file)
canonical_body (Site name arguments) = site_body name (unless_empty arguments)
canonical_body command = with_optional (name_and_value command).0 (line_parameter command)

abbrev pub canonical_line : FtpCommand → Bytes
canonical_line command = canonical_body command ++ crlf

-- a text that a line has room for, and that is not read as none
abbrev pub IsNonEmptyText : Bytes → Type 0
IsNonEmptyText text = (text ≢ []) × Lacks LF text

-- a value that a line has room for
abbrev pub HasRoom : Value → Type 0
HasRoom (Raw bytes) = IsNonEmptyText bytes
HasRoom (Text text) = IsNonEmptyText text
HasRoom _ = ⊤

abbrev pub IsOptionalText : Option Bytes → Type 0
IsOptionalText text = HasRoom (maybe_text text)

-- a name in upper case: without separators and letters `a` to `z`
abbrev pub IsUpperCaseName : Bytes → Type 0
IsUpperCaseName name =
    AllByRecursion (λ b. (is_separator b ≡ false) × (is_ascii_lowercase b ≡ false)) name

-- A line whose one LF is its last byte gives the command.
abbrev pub HasLine : FtpCommand → Type 0
HasLine (User name) = Lacks LF name
HasLine (Pass password) = Lacks LF password
HasLine (Acct account) = Lacks LF account
HasLine (Listing options path) = (options ≡ None) × IsOptionalText path
HasLine (Site name arguments) = IsUpperCaseName name × (name ≢ codes "MD5") × Lacks LF arguments
HasLine (Other name arguments) =
    IsUpperCaseName name × (row_of name verbs ≡ None) × Lacks LF arguments
HasLine command = HasRoom (said command).value
