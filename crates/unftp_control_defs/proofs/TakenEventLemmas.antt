-- The first line of pending bytes, and the lines after it.
use Rattle.std.proofs.Common.{◌≡◌, ℕ, ◌∷◌, ◌++◌, Option, map, sym, ap, ◌∙◌, append_assoc}
use Rattle.unftp_control_defs.specs.Bytes.{Bytes}
use Rattle.unftp_control_defs.specs.Events.{FtpEvent, event_for, events}
use Rattle.unftp_control_defs.specs.TakingSteps.{TakesEvent}
use Rattle.unftp_control_defs.specs.Lines.{incomplete_line}
use Rattle.unftp_control_defs.proofs.LineLemmas.{line_first}

module _ {limit : Option ℕ} {before : Bytes} {event : FtpEvent} {after : Bytes}
    (taken : TakesEvent limit before event after) (more : Bytes) where
  joined : before ++ more ≡ taken.line ++ (after ++ more)
  joined = ap (λ bytes. bytes ++ more) taken.whole ∙ append_assoc taken.line after more

  pub TakesEvent-events : events limit (before ++ more) ≡ event ∷ events limit (after ++ more)
  TakesEvent-events =
      ap (events limit) joined
      ∙ ap (map (event_for limit)) (line_first taken.line (after ++ more) taken.is_line).0
      ∙ ap (λ first. first ∷ events limit (after ++ more)) (sym taken.meaning)

  pub TakesEvent-incomplete : incomplete_line (before ++ more) ≡ incomplete_line (after ++ more)
  TakesEvent-incomplete = ap incomplete_line joined
      ∙ (line_first taken.line (after ++ more) taken.is_line).1
