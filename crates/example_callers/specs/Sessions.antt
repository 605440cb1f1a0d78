-- A whole session.
use Rattle.std.specs.Prelude.{ℕ, [], Option, Result, MatchResult}
use Rattle.unftp_control_defs.specs.Bytes.{Bytes}
use Rattle.unftp_control_serve.specs.Endings.{Snapshot}
use Rattle.unftp_control_defs.specs.Input.{InputState}
use Rattle.unftp_control_defs.specs.Run.{SessionLaw}
use Rattle.unftp_control_serve.specs.Service.{ServedInPieces, ServeEnded}
use Rattle.unftp_control_login.specs.SessionState.{snapshot}
use Rattle.unftp_control_serve.specs.Writing.{OutputState}
use Rattle.unftp_control_serve.specs.declared.error.ServeError.{ServeError}
use Rattle.unftp_control_serve.specs.declared.service.Served.{Served}

-- an output that was not used, over a writer with these written bytes
abbrev pub unused_output : Option Bytes → OutputState
unused_output written = record { taken = []; unflushed = 0; failures = 0; written = written }

abbrev pub snapshot_at_start : {S : Type 0} → S → ℕ → Option Bytes → Snapshot S
snapshot_at_start state failures written = snapshot state failures (unused_output written)

-- an input that was not used, over a reader with these bytes left
abbrev pub unused_input : Option Bytes → InputState
unused_input remaining =
    record { given = []; reads = []; failures = 0; remaining = remaining }

-- All that `serve` says of a session, at Ok or at its error.
abbrev pub SessionEnded : {S : Type 0} → Option ℕ → SessionLaw S → Snapshot S → Snapshot S
    → InputState
    → InputState → Result Served ServeError → Type 0
SessionEnded limit law before after input input' result = MatchResult result
    (ServedInPieces limit law before after input input')
    (ServeEnded limit law before after input input')
