-- A session that answers REIN with two replies.
use Rattle.std.specs.Prelude.{◌≡◌, Bool, false, if◌then◌else◌, [], ◌∷◌, bytes_eq, codes}
use Rattle.unftp_control_defs.specs.Events.{FtpEvent, Command, is_quit, out_of_memory}
use Rattle.unftp_control_defs.specs.FtpCommand.{Other}
use Rattle.unftp_control_defs.specs.FtpReply.{FtpReply, CodeAndMsg}
use Rattle.unftp_control_defs.specs.Run.{SessionLaw}
use Rattle.example_callers.specs.Basic.{basic_reply}

abbrev pub is_rein : FtpEvent → Bool
is_rein (Command (Other name arguments)) = bytes_eq name (codes "REIN")
is_rein event = false

abbrev pub restarting_reply : FtpEvent → FtpReply
restarting_reply event =
    if is_rein event then CodeAndMsg 120 (codes "Service ready soon") else basic_reply event

-- whether 220 is still to come, and whether QUIT came
pub record RestartState : Type 0 where
  pub restarts : Bool
  pub is_done : Bool

-- After REIN, 220 follows 120 (RFC 959, section 5.4).
abbrev pub restarting : SessionLaw RestartState
restarting = record {
  says = λ _ event. restarting_reply event;
  next = λ _ event. record { restarts = is_rein event; is_done = is_quit event };
  more = λ s. if s.restarts
      then (CodeAndMsg 220 (codes "Service ready"), record s { restarts = false }) ∷ []
      else [];
  may_fail = λ _ _ fault. fault ≡ out_of_memory;
  may_break = λ _ fault. fault ≡ out_of_memory;
  done = λ s. s.is_done;
}
