-- A handler that knows NOOP and QUIT.
use Rattle.std.specs.Prelude.{◌≡◌, Bool, codes}
use Rattle.unftp_control_defs.specs.Events.{FtpEvent, Command, Refused, is_quit, out_of_memory}
use Rattle.unftp_control_defs.specs.FtpCommand.{Noop, Quit}
use Rattle.unftp_control_defs.specs.FtpReply.{FtpReply, CodeAndMsg}
use Rattle.unftp_control_defs.specs.Run.{Law}

abbrev pub basic_reply : FtpEvent → FtpReply
basic_reply (Command Noop) = CodeAndMsg 200 (codes "OK")
basic_reply (Command Quit) = CodeAndMsg 221 (codes "Bye")
basic_reply (Command _) = CodeAndMsg 502 (codes "Not implemented")
basic_reply (Refused _) = CodeAndMsg 500 (codes "Not understood")

-- Its state is whether the last event was QUIT, with which it is done.
abbrev pub basic : Law Bool
basic = record {
  says = λ _ event. basic_reply event;
  next = λ _ event. is_quit event;
  may_fail = λ _ _ fault. fault ≡ out_of_memory;
  done = λ is_done. is_done;
}
