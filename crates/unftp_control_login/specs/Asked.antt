-- A gate as a session: the law that it keeps, and what its accounts are asked.
use Rattle.std.specs.Prelude.{◌≡◌, ℕ, false, List, ◌++◌, flat_map, map, Option}
use Rattle.unftp_control_defs.specs.Bytes.{Bytes}
use Rattle.unftp_control_defs.specs.Events.{FtpEvent}
use Rattle.unftp_control_defs.specs.Run.{SessionLaw, at_each, run_for}
use Rattle.unftp_control_login.specs.HandlerCalls.{HandlerCall}
use Rattle.unftp_control_login.specs.Gate.{Gated, gated_law, nobody, questions}

-- A gate, and all that its accounts were asked, in order.
pub record AskedGate (S : Type 0) : Type 0 where
  pub gate : Gated S
  pub asked : List HandlerCall

-- The law of a gate. At each event its accounts are asked what `questions` says, and at a reply
-- that follows they are asked nothing.
abbrev pub asked_law : {S : Type 0} → SessionLaw S → SessionLaw (AskedGate S)
asked_law law = record {
  says = λ s event. (gated_law law).says s.gate event;
  next = λ s event. record {
    gate = (gated_law law).next s.gate event;
    asked = s.asked ++ questions s.gate.stage event;
  };
  more = λ s. map (λ step. (step.0, record s { gate = step.1 })) ((gated_law law).more s.gate);
  may_fail = λ s event. (gated_law law).may_fail s.gate event;
  may_break = λ s. (gated_law law).may_break s.gate;
  done = λ s. (gated_law law).done s.gate;
}

-- all that the accounts are asked at these events, and in the run over an input: whether each
-- password that comes after a name is that of the name
abbrev pub all_questions : {S : Type 0} → SessionLaw S → Gated S → List FtpEvent → List HandlerCall
all_questions law s events =
    flat_map (λ asked. asked) (at_each (λ s event. questions s.stage event) (gated_law law) s events)

abbrev pub questions_for : {S : Type 0} → Option ℕ → SessionLaw S → Gated S → Bytes → List HandlerCall
questions_for limit law s input = all_questions law s (run_for limit (gated_law law) s input)

-- a gate before the first event
pub record IsClosed {S : Type 0} (s : Gated S) : Type 0 where
  pub stage : s.stage ≡ nobody
  pub quit : s.quit ≡ false
  pub passed : s.passed ≡ false
