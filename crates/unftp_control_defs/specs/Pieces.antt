-- The pieces that an input comes in.
use Rattle.std.specs.Prelude.{ℕ, if◌then◌else◌, List, [], ◌∷◌, ◌++◌, Option}
use Rattle.unftp_control_defs.specs.Bytes.{Bytes}
use Rattle.unftp_control_defs.specs.Lines.{incomplete_line}
use Rattle.unftp_control_defs.specs.Events.{FtpEvent, events}
use Rattle.unftp_control_defs.specs.FtpReply.{FtpReply}
use Rattle.unftp_control_defs.specs.Run.{run_for, ends_for, SessionLaw, last_state, replies}

-- the events that the pieces give one after the other, each after the incomplete line that those
-- before it left
abbrev pub events_in_turn : Option ℕ → Bytes → List Bytes → List FtpEvent
events_in_turn limit incomplete [] = []
events_in_turn limit incomplete (piece ∷ pieces) =
    events limit (incomplete ++ piece)
    ++ events_in_turn limit (incomplete_line (incomplete ++ piece)) pieces

-- The replies that the pieces give one after the other; those after the piece in which the run ends
-- give none.
abbrev pub replies_in_turn : {S : Type 0} → Option ℕ → SessionLaw S → S → Bytes → List Bytes
    → List FtpReply
replies_in_turn limit law s incomplete [] = []
replies_in_turn limit law s incomplete (piece ∷ pieces) =
    replies law s (run_for limit law s (incomplete ++ piece))
    ++ (if ends_for limit law s (incomplete ++ piece) then []
    else replies_in_turn limit law
    (last_state law s (events limit (incomplete ++ piece)))
    (incomplete_line (incomplete ++ piece)) pieces)
