-- The event of a canonical line, and events after whole lines.
use Rattle.std.proofs.Common.{◌≡◌, ℕ, false, cond, [], ◌∷◌, ◌++◌, Option, map, length, ap, ◌∙◌}
use Rattle.unftp_control_defs.specs.Bytes.{Bytes}
use Rattle.unftp_control_defs.specs.Canonical.{canonical_line, HasLine}
use Rattle.unftp_control_defs.specs.FtpCommand.{FtpCommand}
use Rattle.unftp_control_defs.specs.Said.{HasTypedFields}
use Rattle.unftp_control_defs.specs.Events.{Command, Refused, event_of, event_for, events, exceeds, line_too_long}
use Rattle.unftp_control_defs.specs.Lines.{incomplete_line}
use Rattle.unftp_control_defs.specs.Outcome.{outcome}
use Rattle.unftp_control_defs.proofs.CanonicalLineEndLemmas.{IsLine-canonical_line}
use Rattle.unftp_control_defs.proofs.CanonicalLineLemmas.{outcome-canonical_line}
use Rattle.unftp_control_defs.proofs.LineLemmas.{events-append, line_first}

-- a canonical line within the limit comes first: its command is the first event
pub events-canonical_line : (limit : Option ℕ) (command : FtpCommand) (more : Bytes)
    → HasLine command → HasTypedFields command
    → exceeds limit (length (canonical_line command)) ≡ false
    → events limit (canonical_line command ++ more) ≡ Command command ∷ events limit more
events-canonical_line limit command more has typed fits =
    ap (map (event_for limit))
    (line_first (canonical_line command) more (IsLine-canonical_line command has)).0
    ∙ ap (λ event. event ∷ events limit more)
    (ap (λ test. cond test (Refused line_too_long) (event_of (outcome (canonical_line command))))
    fits
    ∙ ap event_of (outcome-canonical_line command has typed))

-- the bytes before end with a line
pub events-after : (limit : Option ℕ) (before more : Bytes) → incomplete_line before ≡ []
    → events limit (before ++ more) ≡ events limit before ++ events limit more
events-after limit before more ended =
    events-append limit before more
    ∙ ap (λ incomplete. events limit before ++ events limit (incomplete ++ more)) ended
