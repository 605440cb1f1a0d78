-- A session in clear text, which ends where TLS begins (RFC 4217, section 4).
use Rattle.std.specs.Prelude.{◌≡◌, ◌==◌, ◌&&◌, ◌⊎◌, ℕ, Bool, true, false, if◌then◌else◌, [], Some, codes}
use Rattle.unftp_control_defs.specs.Bytes.{Bytes}
use Rattle.unftp_control_defs.specs.Events.{FtpEvent, Command, out_of_memory}
use Rattle.unftp_control_defs.specs.FtpCommand.{Auth}
use Rattle.unftp_control_defs.specs.FtpReply.{CodeAndMsg}
use Rattle.unftp_control_defs.specs.Run.{Law, after_end, as_session, ends_for, text_for}
use Rattle.unftp_control_defs.specs.Input.{InputState, HasRead}
use Rattle.unftp_control_serve.specs.Service.{ServedInPieces}
use Rattle.unftp_control_serve.specs.Writing.{HasWritten, OutputState}
use Rattle.unftp_control_serve.specs.declared.service.Served.{Served}
use Rattle.unftp_control_login.specs.SessionState.{snapshot}
use Rattle.unftp_control_defs.specs.declared.parameters.AuthParam.TheVariants.{Tls}

abbrev pub is_auth_tls : FtpEvent → Bool
is_auth_tls (Command (Auth Tls)) = true
is_auth_tls _ = false

-- Its state is whether the last event was AUTH TLS, with which it is done.
abbrev pub until_tls : Law Bool
until_tls = record {
  says = λ _ event. if is_auth_tls event then CodeAndMsg 234 (codes "Upgrading to TLS")
      else CodeAndMsg 530 (codes "Begin with AUTH TLS");
  next = λ _ event. is_auth_tls event;
  may_fail = λ _ _ fault. fault ≡ out_of_memory;
  done = λ is_done. is_done;
}

-- TLS begins exactly where AUTH TLS ended the session and no byte after its line was read.
-- `serve_with_limit` says the rest: which pieces were read, and that none was read after the one in
-- which AUTH TLS came, among lines of at most 512 bytes.
pub record BeginsTls (before after : OutputState) (input input' : InputState) (begins : Bool)
    : Type 0 where
  pub is_done : Bool
  pub failures : ℕ
  pub served : Served
  pub answered : ServedInPieces (Some 512) (as_session until_tls) (snapshot false 0 before)
      (snapshot is_done failures after) input input' served
  pub begins_so : begins ≡ (served.done && (served.left == 0))

-- These bytes end with the line of AUTH TLS, and nothing comes after it; or they don't: there is no
-- such line among them, or bytes come after it.
abbrev pub EndsWithAuth : Bool → Bytes → Type 0
EndsWithAuth true read = (ends_for (Some 512) (as_session until_tls) false read ≡ true)
    × (after_end (Some 512) (as_session until_tls) false read ≡ [])
EndsWithAuth false read = (ends_for (Some 512) (as_session until_tls) false read ≡ false)
    ⊎ (after_end (Some 512) (as_session until_tls) false read ≡ [] → ⊥)

-- What was read and written, of any two streams. Where TLS begins, the reads gave exactly the bytes
-- up to the end of AUTH's line: the stream goes on with the first byte of TLS.
pub record LeavesStream (before after : OutputState) (input input' : InputState) (begins : Bool)
    : Type 0 where
  pub read : Bytes
  pub given : HasRead input input' read
  pub written : HasWritten before after (text_for (Some 512) (as_session until_tls) false read)
  pub ends : EndsWithAuth begins read
