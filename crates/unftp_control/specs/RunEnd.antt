-- Where a run ends, in words that compute nothing.
use Rattle.std.specs.Prelude.{◌≡◌, true, false, List, [], ◌∷◌, ◌++◌}
use Rattle.unftp_control_defs.specs.Events.{FtpEvent}
use Rattle.unftp_control_defs.specs.Run.{SessionLaw, last_state}

-- None of these events leaves the handler done.
abbrev pub EndsNowhere : {S : Type 0} → SessionLaw S → S → List FtpEvent → Type 0
EndsNowhere law s events = (first later : List FtpEvent) (event : FtpEvent)
    → events ≡ first ++ event ∷ later
    → law.done (last_state law s (first ++ event ∷ [])) ≡ false

-- Of these events, the one after the first ones leaves the handler done, and none before it does.
pub record EndsAfter {S : Type 0} (law : SessionLaw S) (s : S) (events first : List FtpEvent)
    (event : FtpEvent) : Type 0 where
  pub later : List FtpEvent
  pub split : events ≡ first ++ event ∷ later
  pub none_before : EndsNowhere law s first
  pub done : law.done (last_state law s (first ++ event ∷ [])) ≡ true
