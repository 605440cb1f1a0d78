-- The line of an event: the bytes that were taken, and nothing where they are too many.
use Rattle.std.proofs.Common.{◌≡◌, ℕ, ◌-◌, Bool, true, false, [], ◌++◌, length, take, Option, Ok, Err, refl, ap, ◌∙◌, arith, length-append}
use Rattle.std.specs.Prelude.{if◌then◌else◌, Some}
use Rattle.std.proofs.Math.Seq.{take-append_seam}
use Rattle.unftp_control_defs.specs.Bytes.{Bytes}
use Rattle.unftp_control_defs.specs.Events.{Refused, event_for, event_of, exceeds, line_too_long}
use Rattle.unftp_control_defs.specs.FtpCommand.{Outcome, InvalidUtf8, InvalidCommand, InvalidEol}
use Rattle.unftp_control_defs.specs.Outcome.{outcome}
use Rattle.unftp_control_serve.specs.Decoder.{Pending, TakesLine, line_after}
use Rattle.unftp_control_serve.specs.EventMeaning.{event_meant, refuses_length}
use Rattle.unftp_control_serve.specs.declared.event.Event.{Event}

-- a line that is refused by the parser is not too long
not_by_outcome : (answer : Outcome) → refuses_length (event_of answer) ≡ false
not_by_outcome (Ok command) = refl
not_by_outcome (Err InvalidUtf8) = refl
not_by_outcome (Err InvalidCommand) = refl
not_by_outcome (Err InvalidEol) = refl

pub refuses_length-exceeds : (limit : Option ℕ) (line : Bytes)
    → refuses_length (event_for limit line) ≡ exceeds limit (length line)
refuses_length-exceeds limit line = by_length (exceeds limit (length line))
  where
    by_length : (too_long : Bool)
        → refuses_length (if too_long then Refused line_too_long else event_of (outcome line))
        ≡ too_long
    by_length true = refl
    by_length false = not_by_outcome (outcome line)

front : (line after : Bytes) → take (length (line ++ after) - length after) (line ++ after) ≡ line
front line after = ap (λ n. take n (line ++ after)) (omega (arith, length-append line after))
    ∙ take-append_seam line after

pub line_after-taken : (E : Type 0) {before after : Pending} (event : Event)
    (taken : TakesLine before (event_meant event) after) →
    line_after {E = E} before (Ok (Some event)) after
    ≡ (if refuses_length (event_meant event) then [] else taken.takes.line)
line_after-taken E {before} {after} event taken = by_length (refuses_length (event_meant event))
  where
    by_length : (too_long : Bool) →
        take (if too_long then 0 else (length before.bytes - length after.bytes)) before.bytes
        ≡ (if too_long then [] else taken.takes.line)
    by_length true = refl
    by_length false = rw taken.takes.whole (front taken.takes.line after.bytes)
