-- What a server answers to an event for which it does nothing (RFC 959, sections 4.2.2 and 5.4).
use Rattle.std.specs.Prelude.{ℕ, ◌==◌, ◌||◌, Bool, false, if◌then◌else◌, bytes_eq, Some, None, codes}
use Rattle.unftp_control_defs.specs.Bytes.{Bytes}
use Rattle.unftp_control_defs.specs.Events.{FaultKind, FaultSource, FtpEvent, Command, LineTooLong, OutOfMemory, Parse, Refused}
use Rattle.unftp_control_defs.specs.FtpCommand.{FtpCommand, Acct, Allo, Auth, Ccc, Help, Mode, Noop, Opts, Pbsz, Prot, Quit, Stru, Syst, TypeCode, Refusal, InvalidCommand, InvalidEol, InvalidUtf8, number}
use Rattle.unftp_control_defs.specs.FtpReply.{FtpReply, CodeAndMsg}
use Rattle.unftp_control_defs.specs.declared.parameters.ModeParam.TheVariants.{Block, Stream}
use Rattle.unftp_control_defs.specs.declared.parameters.Opt.TheVariants.{Utf8}
use Rattle.unftp_control_defs.specs.declared.parameters.StruParam.TheVariants.{File, Record}
use Rattle.unftp_control_defs.specs.declared.verb.Verb.TheVariants as verb
use Rattle.unftp_control_commands.specs.Answers.{auth_reply, mode_reply, no_tls, opts_reply, prot_reply, stru_reply}

-- NOOP, QUIT, HELP and SYST (sections 4.1.1 and 4.1.3)
abbrev pub okay : FtpReply
okay = CodeAndMsg 200 (codes "OK")

abbrev pub goodbye : FtpReply
goodbye = CodeAndMsg 221 (codes "Bye")

abbrev pub help_message : FtpReply
help_message = CodeAndMsg 214 (codes "This is an FTP server")

abbrev pub system_type : FtpReply
system_type = CodeAndMsg 215 (codes "UNIX Type: L8")

-- ACCT and ALLO, which are superfluous at a site without accounts, and at one that allocates as it
-- writes (sections 4.1.1 and 4.1.3)
abbrev pub no_account : FtpReply
no_account = CodeAndMsg 202 (codes "No account is needed")

abbrev pub no_allocation : FtpReply
no_allocation = CodeAndMsg 202 (codes "No storage has to be allocated")

-- TYPE (section 4.1.2): an event doesn't hold its parameter, and 200 would promise that type.
abbrev pub same_type : FtpReply
same_type = CodeAndMsg 504 (codes "The representation type stays as it is")

-- each command that the server doesn't have
abbrev pub not_implemented : FtpReply
not_implemented = CodeAndMsg 502 (codes "Not implemented")

-- To PWD and FEAT a server has a reply of its own: the path, and its features.
abbrev pub command_reply : FtpCommand → FtpReply
command_reply Noop = okay
command_reply Quit = goodbye
command_reply Help = help_message
command_reply Syst = system_type
command_reply (Acct account) = no_account
command_reply Allo = no_allocation
command_reply TypeCode = same_type
command_reply (Stru structure) = stru_reply structure
command_reply (Mode mode) = mode_reply mode
command_reply (Opts option) = opts_reply option
command_reply (Auth mechanism) = auth_reply false mechanism
command_reply (Prot level) = prot_reply false level
command_reply Pbsz = no_tls
command_reply Ccc = no_tls
command_reply command = not_implemented

-- A line that is refused: 501 for its parameter, and 500 for all else, also for its length.
abbrev pub refusal_reply : Refusal → FtpReply
refusal_reply InvalidCommand = CodeAndMsg 501 (codes "Invalid parameter")
refusal_reply InvalidUtf8 = CodeAndMsg 500 (codes "The command is not UTF-8")
refusal_reply InvalidEol = CodeAndMsg 500 (codes "Invalid line ending")

abbrev pub long_line : FtpReply
long_line = CodeAndMsg 500 (codes "Line too long")

-- Where memory has run out, the line is not read. So the server closes the connection, as 421 says.
abbrev pub no_memory : FtpReply
no_memory = CodeAndMsg 421 (codes "Out of memory")

abbrev pub source_reply : FaultSource → FtpReply
source_reply (Parse (Some refusal)) = refusal_reply refusal
source_reply (Parse None) = no_memory
source_reply _ = refusal_reply InvalidCommand

abbrev pub fault_reply : FaultKind → FaultSource → FtpReply
fault_reply OutOfMemory _ = no_memory
fault_reply LineTooLong _ = long_line
fault_reply kind source = source_reply source

abbrev pub usual_reply : FtpEvent → FtpReply
usual_reply (Command command) = command_reply command
usual_reply (Refused fault) = fault_reply fault.kind fault.source

-- The reply to a command, by the number of its verb, and by its value where the reply depends on
-- that: for STRU, MODE and OPTS.
abbrev pub reply_by_value : ℕ → Bytes → FtpReply
reply_by_value n value =
    if n == number verb.Stru then stru_reply (if bytes_eq value (codes "F") then File else Record) else
    (if n == number verb.Mode then mode_reply (if bytes_eq value (codes "S") then Stream else Block) else
    (if n == number verb.Opts then opts_reply (Utf8 (bytes_eq value (codes "UTF8 ON"))) else
    not_implemented))

abbrev pub needs_tls : ℕ → Bool
needs_tls n = (n == number verb.Auth) || ((n == number verb.Prot) || ((n == number verb.Pbsz)
    || (n == number verb.Ccc)))

abbrev pub reply_by_number : ℕ → Bytes → FtpReply
reply_by_number n value =
    if n == number verb.Noop then okay else
    (if n == number verb.Quit then goodbye else
    (if n == number verb.Help then help_message else
    (if n == number verb.Syst then system_type else
    (if n == number verb.Acct then no_account else
    (if n == number verb.Allo then no_allocation else
    (if n == number verb.TypeCode then same_type else
    (if needs_tls n then no_tls else reply_by_value n value)))))))
