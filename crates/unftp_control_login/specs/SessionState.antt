-- What contracts see of a session that is made and dropped in a call.
use Rattle.std.specs.Prelude.{ℕ}
use Rattle.unftp_control_serve.specs.Endings.{Snapshot}
use Rattle.unftp_control_serve.specs.Writing.{OutputState}

-- a session in this state, which has failed so often, and this output
abbrev pub snapshot : {S : Type 0} → S → ℕ → OutputState → Snapshot S
snapshot state failures output = record { state = state; failures = failures; output = output }
