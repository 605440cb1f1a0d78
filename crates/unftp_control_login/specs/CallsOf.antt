-- What contracts see of the calls of a gate.
use Rattle.std.specs.Prelude.{ℕ, ◌+◌}
use Rattle.unftp_control_login.specs.HandlerCalls.{CallState}
use Rattle.unftp_control_login.specs.declared.inner.Inner.{Inner}

abbrev pub calls_of : {H : Type 0} → (H → ℕ) → Inner H → CallState
calls_of failures inner = record {
  calls = inner.calls;
  refused = inner.refused;
  failed = failures inner.handler;
}

-- how often a gate has failed: memory was refused, or the handler failed
abbrev pub failures_of : {H : Type 0} → (H → ℕ) → Inner H → ℕ
failures_of failures inner = inner.refused + failures inner.handler
