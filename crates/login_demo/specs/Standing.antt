-- The replies that don't depend on the working directory.
use Rattle.std.specs.Prelude.{ℕ, false, bytes_eq, if◌then◌else◌, [], ◌∷◌, Some, codes}
use Rattle.unftp_control_defs.specs.Bytes.{Bytes}
use Rattle.unftp_control_commands.specs.Answers.{auth_reply, feat_reply_with, help_reply_with, prot_reply, mode_reply, opts_reply, stru_reply}
use Rattle.unftp_control_defs.specs.Events.{FaultKind, FaultSource, Fault, LineTooLong, Parse}
use Rattle.unftp_control_defs.specs.FtpCommand.{FtpCommand, Pass, Acct, Syst, TypeCode, Stru, Mode, Help, Noop, Retr, Stor, Appe, List as Listing, Nlst, Mlsd, Feat, Opts, Allo, Abor, Stou, Rnto, Auth, Prot, Site, Other, InvalidCommand}
use Rattle.unftp_control_defs.specs.FtpReply.{FtpReply, CodeAndMsg}
use Rattle.unftp_control_defs.specs.Texts.{kind_text, reading_text}

-- the reply to a command that needs a data connection
abbrev pub no_data_connection : FtpReply
no_data_connection = CodeAndMsg 425 (codes "No data connection")

-- the fixed replies of one line
abbrev pub fixed_reply : FtpCommand → FtpReply
fixed_reply (Pass password) = CodeAndMsg 503 (codes "Send USER first")
fixed_reply (Acct account) = CodeAndMsg 202 (codes "No account is needed")
fixed_reply Syst = CodeAndMsg 215 (codes "UNIX Type: L8")
fixed_reply TypeCode = CodeAndMsg 200 (codes "Type is set")
fixed_reply Noop = CodeAndMsg 200 (codes "OK")
fixed_reply Allo = CodeAndMsg 202 (codes "No space has to be reserved")
fixed_reply Abor = CodeAndMsg 226 (codes "No transfer is under way")
fixed_reply (Retr path) = no_data_connection
fixed_reply (Stor path) = no_data_connection
fixed_reply (Appe path) = no_data_connection
fixed_reply Stou = no_data_connection
fixed_reply (Listing options path) = no_data_connection
fixed_reply (Nlst path) = no_data_connection
fixed_reply (Mlsd path) = no_data_connection
-- no RNFR is accepted
fixed_reply (Rnto file) = CodeAndMsg 503 (codes "Send RNFR first")
-- a verb that is not known, and then a known one that does nothing here (RFC 959, section 4.2.2)
fixed_reply (Other name arguments) = CodeAndMsg 500 (codes "Unknown command")
fixed_reply command = CodeAndMsg 502 (codes "Not implemented")

-- FEAT (RFC 2389, section 3.2), with MLST's facts (RFC 3659, section 7.8)
abbrev pub features_reply : FtpReply
features_reply = feat_reply_with
    (codes "MDTM" ∷ codes "MLST type*;size*;modify*;" ∷ codes "SIZE" ∷ codes "UTF8" ∷ [])

-- HELP (RFC 959, section 4.1.3): the commands that do something
abbrev pub commands_reply : FtpReply
commands_reply = help_reply_with
    (codes "Commands:" ∷ codes " ABOR ACCT ALLO CDUP CWD FEAT HELP MDTM MLST MODE NOOP OPTS"
    ∷ codes " PASS PWD QUIT SITE SIZE STRU SYST TYPE USER" ∷ codes "END" ∷ [])

-- SITE, by its subcommand
abbrev pub site_reply : Bytes → FtpReply
site_reply name = if bytes_eq name (codes "HELP")
    then CodeAndMsg 214 (codes "SITE has HELP only")
    else CodeAndMsg 504 (codes "SITE has HELP only")

-- the replies that are fixed, or made of the command's parameters; TLS is not configured
abbrev pub standing_reply : FtpCommand → FtpReply
standing_reply (Auth protocol) = auth_reply false protocol
standing_reply (Prot param) = prot_reply false param
standing_reply (Mode mode) = mode_reply mode
standing_reply (Opts option) = opts_reply option
standing_reply (Stru structure) = stru_reply structure
standing_reply Feat = features_reply
standing_reply Help = commands_reply
standing_reply (Site name arguments) = site_reply name
standing_reply command = fixed_reply command

-- the text for a line that is too long, and for any other error that has no line
abbrev pub unread_text : FaultKind → Bytes
unread_text LineTooLong = kind_text LineTooLong
unread_text _ = codes "Not understood"

-- why a line was refused
abbrev pub refusal_text : FaultKind → FaultSource → Bytes
refusal_text kind (Parse why) = reading_text why
refusal_text kind _ = unread_text kind

-- 501 for a parameter that a known verb doesn't take, else 500 (RFC 959, section 4.2.2); RFC 2228,
-- section 3, has 504 for AUTH and PROT, but which verb was refused isn't known here
abbrev pub refusal_code : FaultSource → ℕ
refusal_code (Parse (Some InvalidCommand)) = 501
refusal_code _ = 500

-- the reply to a refused line
abbrev pub refusal_reply : Fault → FtpReply
refusal_reply fault = CodeAndMsg (refusal_code fault.source) (refusal_text fault.kind fault.source)
