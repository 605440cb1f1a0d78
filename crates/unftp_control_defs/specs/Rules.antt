-- What each verb makes of its parameter: the values of STRU and MODE (RFC 959, section 4.1.2), of
-- PROT, PBSZ and AUTH (RFC 2228, section 3; TLS and PBSZ 0: RFC 4217; SSL is in neither), of OPTS
-- (RFC 2389, section 4) and of REST (RFC 3659, section 5), and what the verbs of a kind make of
-- theirs.
use Rattle.std.specs.Prelude.{true, false, ◌==◌, ◌&&◌, nat_lt, ◌^◌, if◌then◌else◌, List, [], ◌∷◌, length, Option, option_map, Ok, Err, bytes_eq, codes, find}
use Rattle.std.specs.Str.{is_utf8, all_ascii_digits}
use Rattle.std.specs.Str.Lossy.{utf8_lossy}
use Rattle.std.specs.Str.Parse.{without_leading_plus, digits_value}
use Rattle.unftp_control_defs.specs.Bytes.{Bytes}
use Rattle.unftp_control_defs.specs.Verbs.{upper}
use Rattle.unftp_control_defs.specs.Paths.{path_of}
use Rattle.unftp_control_defs.specs.FtpCommand.{FtpCommand, Stru, Mode, Opts, Auth, Pbsz, Prot, Rest, Outcome, InvalidCommand, InvalidUtf8, Value, Nothing, Text, command_by, maybe_raw, maybe_text, unless_empty}
use Rattle.unftp_control_defs.specs.declared.parameters.AuthParam.TheVariants.{Ssl, Tls}
use Rattle.unftp_control_defs.specs.declared.parameters.ModeParam.TheVariants.{Stream, Block, Compressed}
use Rattle.unftp_control_defs.specs.declared.parameters.Opt.TheVariants.{Utf8}
use Rattle.unftp_control_defs.specs.declared.parameters.ProtParam.TheVariants.{Clear, Safe, Confidential, Private}
use Rattle.unftp_control_defs.specs.declared.parameters.StruParam.TheVariants.{File, Record, Page}
use Rattle.unftp_control_defs.specs.declared.verb.Kind.{Kind}
use Rattle.unftp_control_defs.specs.declared.verb.Kind.TheVariants as kinds
use Rattle.unftp_control_defs.specs.declared.verb.Verb.{Verb}
use Rattle.unftp_control_defs.specs.declared.verb.Verb.TheVariants as verb

-- the value in this name's row
abbrev pub row_of : {A : Type 0} → Bytes → List (Bytes × A) → Option A
row_of name rows = option_map (λ row. row.1) (find (λ row. bytes_eq name row.0) rows)

-- one of these values, in this case only
abbrev pub chosen : List (Bytes × FtpCommand) → Bytes → Outcome
chosen [] v = Err InvalidCommand
chosen (row ∷ rows) v = if bytes_eq row.0 v then Ok row.1 else chosen rows v

abbrev pub structures : List (Bytes × FtpCommand)
structures = (codes "F", Stru File) ∷ (codes "R", Stru Record) ∷ (codes "P", Stru Page) ∷ []

abbrev pub modes : List (Bytes × FtpCommand)
modes = (codes "S", Mode Stream) ∷ (codes "B", Mode Block) ∷ (codes "C", Mode Compressed) ∷ []

abbrev pub protections : List (Bytes × FtpCommand)
protections = (codes "C", Prot Clear) ∷ (codes "S", Prot Safe) ∷ (codes "E", Prot Confidential)
    ∷ (codes "P", Prot Private) ∷ []

abbrev pub options : List (Bytes × FtpCommand)
options = (codes "UTF8 ON", Opts (Utf8 true)) ∷ (codes "utf8 on", Opts (Utf8 true))
    ∷ (codes "UTF8 OFF", Opts (Utf8 false)) ∷ (codes "utf8 off", Opts (Utf8 false)) ∷ []

abbrev pub buffer_sizes : List (Bytes × FtpCommand)
buffer_sizes = (codes "0", Pbsz) ∷ []

abbrev pub mechanisms : List (Bytes × FtpCommand)
mechanisms = (codes "TLS", Auth Tls) ∷ (codes "SSL", Auth Ssl) ∷ []

-- the value of AUTH, at most three bytes of UTF-8, ignoring ASCII case (RFC 2228, section 3)
abbrev pub auth : Bytes → Outcome
auth v = if nat_lt 3 (length v) then Err InvalidCommand
    else (if is_utf8 v then chosen mechanisms (upper v)
    else Err InvalidUtf8)

-- the offset of REST, a decimal number below 2 ^ 64 (RFC 3659, section 5), also after a plus, which no
-- RFC has
abbrev pub offset : Bytes → Outcome
offset text = let digits = without_leading_plus text in
    if nat_lt 0 (length digits) && all_ascii_digits digits
    && nat_lt (digits_value 10 digits) (2 ^ 64)
    then Ok (Rest (digits_value 10 digits)) else Err InvalidCommand

-- what the verbs with a value of their own type make of it
abbrev pub typed_outcome : Verb → Bytes → Outcome
typed_outcome verb.Stru v = chosen structures v
typed_outcome verb.Mode v = chosen modes v
typed_outcome verb.Prot v = chosen protections v
typed_outcome verb.Opts v = chosen options v
typed_outcome verb.Pbsz v = chosen buffer_sizes v
typed_outcome verb.Auth v = auth v
typed_outcome verb.Rest v = offset (utf8_lossy v)
typed_outcome _ v = Err InvalidCommand

-- a text, or none where the value is empty; ill-formed UTF-8 is replaced
abbrev pub optional_text : Bytes → Value
optional_text v = maybe_text (option_map utf8_lossy (unless_empty v))

-- what a verb of this kind makes of a value
abbrev pub taken : Kind → Verb → Bytes → Bytes → Outcome
taken kinds.Alone verb name v =
    if length v == 0 then command_by verb name Nothing else Err InvalidCommand
taken kinds.Raw verb name v = command_by verb name (maybe_raw (unless_empty v))
taken kinds.Text verb name v =
    if length v == 0 then Err InvalidCommand else command_by verb name (Text (utf8_lossy v))
taken kinds.OptionalText verb name v = command_by verb name (optional_text v)
taken kinds.Listing verb name v =
    command_by verb name (maybe_text (unless_empty (path_of (utf8_lossy v))))
taken kinds.Typed verb name v = typed_outcome verb v
taken _ verb name v = Err InvalidCommand

-- what a subcommand of SITE, in upper case, makes of the value after it
abbrev pub subcommand_outcome : Bytes → Bytes → Outcome
subcommand_outcome name = if bytes_eq name (codes "MD5") then taken kinds.Text verb.Md5 []
    else taken kinds.OptionalText verb.Site name
