-- The events that a server takes, step by step.
use Rattle.std.proofs.Common.{◌≡◌, ℕ, List, [], ◌∷◌, ◌++◌, Option, sym, ap, ◌∙◌, append_assoc}
use Rattle.std.proofs.lemmas.List.{append-nil}
use Rattle.unftp_control_defs.specs.Bytes.{Bytes, LF, Lacks}
use Rattle.unftp_control_defs.specs.Lines.{incomplete_line}
use Rattle.unftp_control_defs.specs.Events.{FtpEvent, events}
use Rattle.unftp_control_defs.specs.TakingSteps.{TakingStep, TakesEvent, Pushed, Taken, AreTakingSteps, all_pushed, all_taken}
use Rattle.unftp_control_defs.proofs.LineLemmas.{events-incomplete, incomplete_line-incomplete}
use Rattle.unftp_control_defs.proofs.TakenEventLemmas.{TakesEvent-events, TakesEvent-incomplete}

module _ (limit : Option ℕ) where
  -- the events that are taken and those of what is pending then are the events of all bytes
  pub steps-events : (before : Bytes) (steps : List (TakingStep FtpEvent)) (after : Bytes)
      → AreTakingSteps (TakesEvent limit) before steps after
      → all_taken steps ++ events limit after ≡ events limit (before ++ all_pushed steps)
  steps-events before [] after are = ap (events limit) (are ∙ sym (append-nil before))
  steps-events before (Pushed piece ∷ steps) after are =
      steps-events (before ++ piece) steps after are
      ∙ ap (events limit) (append_assoc before piece (all_pushed steps))
  steps-events before (Taken event ∷ steps) after (following, taken, are) =
      ap (λ events. event ∷ events) (steps-events following steps after are)
      ∙ sym (TakesEvent-events taken (all_pushed steps))

  pub steps-incomplete : (before : Bytes) (steps : List (TakingStep FtpEvent)) (after : Bytes)
      → AreTakingSteps (TakesEvent limit) before steps after
      → incomplete_line after ≡ incomplete_line (before ++ all_pushed steps)
  steps-incomplete before [] after are = ap incomplete_line (are ∙ sym (append-nil before))
  steps-incomplete before (Pushed piece ∷ steps) after are =
      steps-incomplete (before ++ piece) steps after are
      ∙ ap incomplete_line (append_assoc before piece (all_pushed steps))
  steps-incomplete before (Taken event ∷ steps) after (following, taken, are) =
      steps-incomplete following steps after are
      ∙ sym (TakesEvent-incomplete taken (all_pushed steps))

  -- where no line is left, they are all events
  pub steps-all : (steps : List (TakingStep FtpEvent)) (after : Bytes)
      → AreTakingSteps (TakesEvent limit) [] steps after → Lacks LF after
      → (all_taken steps ≡ events limit (all_pushed steps))
      × (after ≡ incomplete_line (all_pushed steps))
  steps-all steps after are unended = (
    sym (append-nil (all_taken steps)) ∙ ap (λ events. all_taken steps ++ events)
        (sym (events-incomplete limit after unended))
        ∙ steps-events [] steps after are,
    sym (incomplete_line-incomplete after unended) ∙ steps-incomplete [] steps after are,
  )
