-- A gate as a session does what the gate does, and its accounts are asked what follows from the
-- events.
use Rattle.std.proofs.Common.{◌≡◌, ℕ, List, [], ◌∷◌, ◌++◌, Option, refl, sym, ap, ◌∙◌, append_assoc}
use Rattle.std.specs.Prelude.{if◌then◌else◌, flat_map}
use Rattle.std.proofs.lemmas.List.{append-nil}
use Rattle.unftp_control_defs.specs.Bytes.{Bytes}
use Rattle.unftp_control_defs.specs.Events.{FtpEvent, events}
use Rattle.unftp_control_defs.specs.FtpReply.{encoded}
use Rattle.unftp_control_defs.specs.Run.{SessionLaw, after, all_replies, last_state, replies_by_event, replies_to, run_for, run_of, text_for, turn}
use Rattle.unftp_control_login.specs.HandlerCalls.{HandlerCall}
use Rattle.unftp_control_login.specs.Gate.{Gated, gated_law, questions}
use Rattle.unftp_control_login.specs.Asked.{AskedGate, IsClosed, all_questions, asked_law}
use Rattle.unftp_control_login.specs.Promises.{guarded}
use Rattle.unftp_control_login.proofs.StageLemmas.{after-lifted, turn_replies-lifted}

module _ {S : Type 0} (law : SessionLaw S) where
  abbrev gate : SessionLaw (Gated S)
  gate = gated_law law

  abbrev both : SessionLaw (AskedGate S)
  both = asked_law law

  abbrev having : List HandlerCall → Gated S → AskedGate S
  having asked s = record { gate = s; asked = asked }

  -- an event
  module _ (asked : List HandlerCall) (s : Gated S) (event : FtpEvent) where
    abbrev then_asked : List HandlerCall
    then_asked = asked ++ questions s.stage event

    asked-after : after both (having asked s) event ≡ having then_asked (after gate s event)
    asked-after = after-lifted (having then_asked) s (turn gate s event)

    asked-replies : replies_to both (having asked s) event ≡ replies_to gate s event
    asked-replies = turn_replies-lifted (having then_asked) (turn gate s event)

  -- and several
  asked-run : (asked : List HandlerCall) (s : Gated S) (events : List FtpEvent)
      → run_of both (having asked s) events ≡ run_of gate s events
  asked-run asked s [] = refl
  asked-run asked s (event ∷ events) =
      let n = after gate s event in
      ap (λ t. event ∷ (if both.done t then [] else run_of both t events))
      (asked-after asked s event)
      ∙ ap (λ run. event ∷ (if gate.done n then [] else run))
      (asked-run (then_asked asked s event) n events)

  asked-by-event : (asked : List HandlerCall) (s : Gated S) (events : List FtpEvent)
      → replies_by_event both (having asked s) events ≡ replies_by_event gate s events
  asked-by-event asked s [] = refl
  asked-by-event asked s (event ∷ events) =
      ap (λ replies. replies ∷ replies_by_event both (after both (having asked s) event) events)
      (asked-replies asked s event)
      ∙ ap (λ t. replies_to gate s event ∷ replies_by_event both t events)
      (asked-after asked s event)
      ∙ ap (λ later. replies_to gate s event ∷ later)
      (asked-by-event (then_asked asked s event) (after gate s event) events)

  asked-last : (asked : List HandlerCall) (s : Gated S) (events : List FtpEvent)
      → last_state both (having asked s) events
      ≡ having (asked ++ all_questions law s events) (last_state gate s events)
  asked-last asked s [] = ap (λ asked. having asked s) (sym (append-nil asked))
  asked-last asked s (event ∷ events) =
      let n = after gate s event in
      ap (λ t. last_state both t events) (asked-after asked s event)
      ∙ asked-last (then_asked asked s event) n events
      ∙ ap (λ asked. having asked (last_state gate n events))
      (append_assoc asked (questions s.stage event) (all_questions law n events))

  -- over an input
  module _ (limit : Option ℕ) (asked : List HandlerCall) (s : Gated S) (input : Bytes) where
    pub asked-text : text_for limit both (having asked s) input ≡ text_for limit gate s input
    asked-text = ap (λ turns. flat_map encoded (all_replies turns))
        (ap (replies_by_event both (having asked s)) (asked-run asked s (events limit input))
        ∙ asked-by-event asked s (run_for limit gate s input))

    pub asked-all : (last_state both (having asked s) (run_for limit both (having asked s) input)).asked
        ≡ asked ++ all_questions law s (run_for limit gate s input)
    asked-all = ap (λ (t : AskedGate S). t.asked)
        (ap (last_state both (having asked s)) (asked-run asked s (events limit input))
        ∙ asked-last asked s (run_for limit gate s input))

-- A gate before the first event is one that was made so.
pub closed-is : {S : Type 0} (s : Gated S) → IsClosed s → s ≡ guarded s.left s.accepts s.inner
closed-is s closed = λ i. record {
  accepts = s.accepts;
  left = s.left;
  stage = closed.stage i;
  quit = closed.quit i;
  passed = closed.passed i;
  inner = s.inner;
}
