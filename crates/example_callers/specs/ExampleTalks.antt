-- A session, for the examples.
use Rattle.std.specs.Prelude.{Bool, false, ℕ, codes}
use Rattle.unftp_control_serve.specs.Endings.{Snapshot}
use Rattle.unftp_control_serve.specs.Writing.{appended_output}
use Rattle.unftp_control_login.specs.SessionState.{snapshot}

-- its handler at the start of a session, after so many failures; the writer holds one byte
abbrev pub before_session : ℕ → Snapshot Bool
before_session failures = snapshot false failures (appended_output (codes "x"))
