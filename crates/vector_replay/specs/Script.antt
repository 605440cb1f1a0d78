-- What the handler of sessions answers.
use Rattle.std.specs.Prelude.{Bool, ⊤, ◌||◌, bytes_eq, codes, if◌then◌else◌}
use Rattle.unftp_control_defs.specs.Bytes.{Bytes}
use Rattle.unftp_control_defs.specs.FtpCommand.{FtpCommand, Help, Noop, Quit, Site}
use Rattle.unftp_control_defs.specs.Events.{FaultKind, FaultSource, FtpEvent, Command, Refused, Parse, is_quit}
use Rattle.unftp_control_defs.specs.FtpReply.{FtpReply, CodeAndMsg, Nothing}
use Rattle.unftp_control_defs.specs.Texts.{reading_text, kind_text}
use Rattle.unftp_control_defs.specs.Run.{Law}
use Rattle.unftp_control_commands.specs.Answers.{help_reply}

abbrev pub not_implemented : FtpReply
not_implemented = CodeAndMsg 502 (codes "Not implemented")

-- SITE ECHO says its arguments again
abbrev pub site_reply : Bytes → Bytes → FtpReply
site_reply name arguments =
    if bytes_eq name (codes "ECHO") then CodeAndMsg 200 arguments else not_implemented

-- as `control_demo` answers these; it answers eight others, too
abbrev pub command_reply : FtpCommand → FtpReply
command_reply Noop = CodeAndMsg 200 (codes "OK")
command_reply Quit = CodeAndMsg 221 (codes "Bye")
command_reply Help = help_reply
command_reply (Site name arguments) = site_reply name arguments
command_reply _ = not_implemented

-- why the parser refused a line, or else what kind of error it is
abbrev pub refusal_text : FaultKind → FaultSource → Bytes
refusal_text kind (Parse why) = reading_text why
refusal_text kind _ = kind_text kind

abbrev pub event_reply : FtpEvent → FtpReply
event_reply (Command command) = command_reply command
event_reply (Refused fault) = CodeAndMsg 500 (refusal_text fault.kind fault.source)

pub record ScriptState : Type 0 where
  pub is_silent : Bool
  pub has_quit : Bool

-- a silent one says nothing, and each is done once QUIT came
abbrev pub script_law : Law ScriptState
script_law = record {
  says = λ state event. if state.is_silent then Nothing else event_reply event;
  next = λ state event.
      record { is_silent = state.is_silent; has_quit = state.has_quit || is_quit event };
  may_fail = λ _ _ _. ⊤;
  done = λ state. state.has_quit;
}
