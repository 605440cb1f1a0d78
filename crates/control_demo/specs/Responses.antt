-- What the handler answers, and when it is done.
use Rattle.std.specs.Prelude.{◌≡◌, ◌||◌, bytes_eq, if◌then◌else◌, Bool, false, unwrap_or, codes}
use Rattle.unftp_control_defs.specs.Bytes.{Bytes}
use Rattle.unftp_control_defs.specs.FtpCommand.{FtpCommand, Auth, Prot, Feat, Epsv, Help, Mode, Opts, Stru, Mlst, Noop, Quit, Site}
use Rattle.unftp_control_defs.specs.Events.{FaultKind, FaultSource, FtpEvent, Command, Refused, Parse, is_quit, out_of_memory}
use Rattle.unftp_control_defs.specs.FtpReply.{FtpReply, CodeAndMsg}
use Rattle.unftp_control_defs.specs.Texts.{reading_text, kind_text}
use Rattle.unftp_control_defs.specs.Run.{Law}
use Rattle.unftp_control_commands.specs.Answers.{auth_reply, prot_reply, facts_reply, feat_reply, port_reply, help_reply, mode_reply, opts_reply, stru_reply}

-- the facts of the one file that the handler knows: it has 1,234 bytes, and was last modified on 1
-- December 2023 at noon (RFC 3659, section 7.5)
abbrev pub facts : Bytes
facts = codes "type=file;size=1234;modify=20231201120000;"

-- the reply to any other command
abbrev pub not_implemented : FtpReply
not_implemented = CodeAndMsg 502 (codes "Not implemented")

-- SITE ECHO returns its arguments
abbrev pub site_reply : Bytes → Bytes → FtpReply
site_reply name arguments =
    if bytes_eq name (codes "ECHO") then CodeAndMsg 200 arguments else not_implemented

-- TLS, restarts and sums are off, EPSV reports a port that is not opened, and every path is that of
-- the one file
abbrev pub command_reply : FtpCommand → FtpReply
command_reply (Auth protocol) = auth_reply false protocol
command_reply (Prot param) = prot_reply false param
command_reply Feat = feat_reply false false false
command_reply Epsv = port_reply 2121
command_reply Help = help_reply
command_reply (Mode mode) = mode_reply mode
command_reply (Opts option) = opts_reply option
command_reply (Stru structure) = stru_reply structure
command_reply (Mlst path) = facts_reply facts (unwrap_or path (codes "/"))
command_reply Noop = CodeAndMsg 200 (codes "OK")
command_reply Quit = CodeAndMsg 221 (codes "Bye")
command_reply (Site name arguments) = site_reply name arguments
command_reply _ = not_implemented

-- why the parser refused a line, or else what kind of error it is
abbrev pub refusal_text : FaultKind → FaultSource → Bytes
refusal_text kind (Parse why) = reading_text why
refusal_text kind _ = kind_text kind

-- the reply to an event: to a command, or 500 to a refused line
abbrev pub event_reply : FtpEvent → FtpReply
event_reply (Command command) = command_reply command
event_reply (Refused fault) = CodeAndMsg 500 (refusal_text fault.kind fault.source)

-- Its state is whether QUIT came, and then it is done. It may fail with `OutOfMemory` only, without
-- a source.
abbrev pub responses_law : Law Bool
responses_law = record {
  says = λ _ event. event_reply event;
  next = λ quit event. quit || is_quit event;
  may_fail = λ _ _ fault. fault ≡ out_of_memory;
  done = λ quit. quit;
}
