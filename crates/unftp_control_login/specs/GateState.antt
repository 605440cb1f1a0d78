-- What contracts see of a gate, and what a call leaves of it.
use Rattle.std.specs.Prelude.{◌≡◌, ℕ, Option, Result, IfOk, OnOk}
use Rattle.unftp_control_defs.specs.Bytes.{Bytes}
use Rattle.unftp_control_defs.specs.Events.{FtpEvent}
use Rattle.unftp_control_defs.specs.Run.{SessionLaw}
use Rattle.unftp_control_message.specs.ReplyMeaning.{reply_of}
use Rattle.unftp_control_message.specs.declared.reply.Reply.{Reply}
use Rattle.unftp_control_message.specs.declared.reply.error.ControlChanError.{ControlChanError}
use Rattle.unftp_control_serve.specs.Endings.{Snapshot, snapshot_of}
use Rattle.unftp_control_serve.specs.declared.output.Output.{Output}
use Rattle.unftp_control_login.specs.Login.{Accounts}
use Rattle.unftp_control_login.specs.HandlerCalls.{CallsMade}
use Rattle.unftp_control_login.specs.CallsOf.{calls_of, failures_of}
use Rattle.unftp_control_login.specs.Gate.{GateDecision, Gated, calls_by, decides, further_calls, reply_by, state_by}
use Rattle.unftp_control_login.specs.Asked.{AskedGate}
use Rattle.unftp_control_login.specs.declared.inner.Inner.{Inner}
use Rattle.unftp_control_login.specs.declared.gate.Gate.{Gate}

abbrev pub gated : {A H S : Type 0} → (A → Accounts) → (H → S) → Gate A H → Gated S
gated accepts state gate = record {
  accepts = accepts gate.accounts.accounts;
  left = gate.limit.left;
  stage = gate.stage;
  quit = gate.quit;
  passed = gate.passed;
  inner = state gate.inner.handler;
}

-- the same with what the accounts were asked
abbrev pub asked_gate : {A H S : Type 0} → (A → Accounts) → (H → S) → Gate A H → AskedGate S
asked_gate accepts state gate = record {
  gate = gated accepts state gate;
  asked = gate.accounts.questions;
}

-- the same of a gate and an output, with how often the gate has failed
abbrev pub gate_snapshot : {A H S W : Type 0} → (A → Accounts) → (H → S) → (H → ℕ)
    → (W → Option Bytes) → Gate A H → Output W → Snapshot (AskedGate S)
gate_snapshot accepts state failures =
    snapshot_of (asked_gate accepts state) (λ gate. failures_of failures gate.inner)

-- At an event the calls were made that follow from the gate's decision.
abbrev pub GateCalled : {H S T : Type 0} → (H → ℕ) → SessionLaw S → Gated S → Inner H → FtpEvent
    → Inner H → Result T ControlChanError → Type 0
GateCalled failures law s before event after =
    CallsMade law (calls_by law s.inner (decides s event))
    (calls_of failures before) (calls_of failures after)

-- After it the handler was asked for its next reply, where the event was passed on.
abbrev pub GateAsked : {H S T : Type 0} → (H → ℕ) → SessionLaw S → Gated S → Inner H → Inner H
    → Result T ControlChanError → Type 0
GateAsked failures law s before after =
    CallsMade law (further_calls s) (calls_of failures before) (calls_of failures after)

-- What follows from a decision: a reply, the handler's next state, and calls.
pub record Decided {H S : Type 0} (state : H → S) (failures : H → ℕ) (law : SessionLaw S)
    (before after : Inner H) (decision : GateDecision) (result : Result Reply ControlChanError)
    : Type 0 where
  pub says : IfOk result (λ reply. reply_of reply ≡ reply_by law (state before.handler) decision)
  pub next : OnOk result (state after.handler ≡ state_by law (state before.handler) decision)
  pub calls : CallsMade law (calls_by law (state before.handler) decision)
      (calls_of failures before) (calls_of failures after) result
