-- A gate whose accounts and stage are others: it does the same at events that are alike.
use Rattle.std.proofs.Common.{◌≡◌, ℕ, Option, Bool, ◌||◌, List, [], ◌∷◌, refl, sym, ap, subst, ◌∙◌}
use Rattle.unftp_control_defs.specs.Events.{Fault, FtpEvent, is_quit}
use Rattle.unftp_control_defs.specs.FtpReply.{FtpReply}
use Rattle.unftp_control_defs.specs.Run.{SessionLaw, after, last_state, state_after, turn}
use Rattle.unftp_control_login.specs.declared.stage.Stage.{Stage}
use Rattle.unftp_control_login.specs.Login.{Accounts}
use Rattle.unftp_control_login.specs.HandlerCalls.{FailsIn, calls_in}
use Rattle.unftp_control_login.specs.Gate.{GateDecision, Gated, PassesOn, all_calls_by, calls_by, decided, decides, gated_law, is_passed, attempts_after, limited, reply_by, stage_after, stage_after_all, state_by}
use Rattle.unftp_control_login.specs.Promises.{gate_calls}
use Rattle.unftp_control_login.proofs.StageLemmas.{after-lifted, lifted, lifted-lifted}

-- Gates with these accounts, at these stages, decide the same at these events.
pub record Alike (accepts other : Accounts) (stage other_stage : Stage) (event another : FtpEvent)
    : Type 0 where
  pub decision : decided accepts stage event ≡ decided other other_stage another
  pub quit : is_quit event ≡ is_quit another

pub alike-itself : (accepts : Accounts) (stage : Stage) (event : FtpEvent)
    → Alike accepts accepts stage stage event event
alike-itself accepts stage event = record { decision = refl; quit = refl }

-- and at all of these, from these stages on
abbrev pub AllAlike : Accounts → Accounts → Stage → Stage → List FtpEvent → List FtpEvent → Type 0
AllAlike accepts other stage other_stage [] [] = Unit {0}
AllAlike accepts other stage other_stage (event ∷ events) (another ∷ others) =
    Alike accepts other stage other_stage event another
    × AllAlike accepts other (stage_after accepts stage event)
    (stage_after other other_stage another) events others
AllAlike accepts other stage other_stage events others = ⊥

abbrev pub at : {S : Type 0} → Accounts → Stage → Gated S → Gated S
at accepts stage s = record s { accepts = accepts; stage = stage }

module _ {S : Type 0} (law : SessionLaw S) where
  abbrev gate : SessionLaw (Gated S)
  gate = gated_law law

  -- all replies to an event of which this is decided, with the states after them
  abbrev next_by : Accounts → Stage → Gated S → Option ℕ → GateDecision → Bool → Gated S
  next_by accepts stage s left decision quit = record {
    accepts = accepts;
    left = left;
    stage = stage;
    quit = s.quit || quit;
    passed = is_passed decision;
    inner = state_by law s.inner decision;
  }

  abbrev turn_by : Accounts → Stage → Gated S → Option ℕ → GateDecision → Bool
      → List (FtpReply × Gated S)
  turn_by accepts stage s left decision quit =
      let n = next_by accepts stage s left decision quit in
      (reply_by law s.inner decision, n) ∷ gate.more n

  turn-lifted : (accepts : Accounts) (stage : Stage) (s : Gated S) (left : Option ℕ)
      (decision : GateDecision) (quit : Bool)
      → turn_by accepts stage s left decision quit
      ≡ lifted (at accepts stage) (turn_by s.accepts s.stage s left decision quit)
  turn-lifted accepts stage s left (PassesOn event) quit =
      let n = next_by s.accepts s.stage s left (PassesOn event) quit in
      ap (λ later. (law.says s.inner event, at accepts stage n) ∷ later)
      (sym (lifted-lifted (λ inner. record n { inner = inner }) (at accepts stage)
      (law.more (law.next s.inner event))))
  turn-lifted accepts stage s left decision quit = refl

  module _ (accepts other : Accounts) (stage other_stage : Stage) (s : Gated S)
      (event another : FtpEvent) (alike : Alike accepts other stage other_stage event another) where
    same_decision : decides (at other other_stage s) another ≡ decides (at accepts stage s) event
    same_decision = ap (limited s.left) (sym alike.decision)

    pub turns : turn gate (at other other_stage s) another
        ≡ lifted (at other (stage_after other other_stage another))
        (turn gate (at accepts stage s) event)
    turns =
        (λ i. turn_by other (stage_after other other_stage another) s
        (attempts_after s.left (sym alike.decision i)) (same_decision i)
        (sym alike.quit i))
        ∙ turn-lifted other (stage_after other other_stage another)
        (at accepts (stage_after accepts stage event) s)
        (attempts_after s.left (decided accepts stage event))
        (decides (at accepts stage s) event) (is_quit event)

    pub goes : after gate (at other other_stage s) another
        ≡ at other (stage_after other other_stage another)
        (after gate (at accepts stage s) event)
    goes = ap (state_after s) turns ∙ after-lifted
        (at other (stage_after other other_stage another)) s
        (turn gate (at accepts stage s) event)

    pub called : gate_calls law (at other other_stage s) another
        ≡ gate_calls law (at accepts stage s) event
    called = ap (λ decision. calls_in (all_calls_by law s.inner decision)) same_decision

    pub fails_alike : (fault : Fault)
        → gate.may_fail (at accepts stage s) event fault
        → gate.may_fail (at other other_stage s) another fault
    fails_alike fault may = subst (λ decision. FailsIn law (calls_by law s.inner decision) fault)
        (sym same_decision) may

  -- The accounts stay, and the stage is that of the events.
  pub last-at : (accepts : Accounts) (stage : Stage) (s : Gated S) (events : List FtpEvent)
      → (base : Gated S) × (last_state gate (at accepts stage s) events
      ≡ at accepts (stage_after_all accepts stage events) base)
  last-at accepts stage s [] = (s, refl)
  last-at accepts stage s (event ∷ events) =
      let n = after gate (at accepts stage s) event in
      let later = last-at accepts (stage_after accepts stage event) n events in (
        later.0,
        ap (λ t. last_state gate t events) (goes accepts accepts stage stage s event
            event (alike-itself accepts stage event)) ∙ later.1,
      )
