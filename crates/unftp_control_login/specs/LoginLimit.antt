-- The failed logins of a session, and how many there may be.
use Rattle.std.specs.Prelude.{◌≡◌, ℕ, ◌+◌, ◌-◌, ◌==◌, nat_le, Bool, true, false, ◌&&◌, ◌||◌, not, if◌then◌else◌, IsTrue, List, [], ◌∷◌, ◌++◌, Option, Some, None, codes}
use Rattle.unftp_control_defs.specs.FtpCommand.{Pass}
use Rattle.unftp_control_defs.specs.Events.{FtpEvent, Command}
use Rattle.unftp_control_defs.specs.FtpReply.{FtpReply, CodeAndMsg, is_positive}
use Rattle.unftp_control_defs.specs.Run.{SessionLaw, ends, replies, run_of, replies_by_event}
use Rattle.unftp_control_defs.specs.Turns.{is_preliminary_reply}

abbrev pub is_pass : FtpEvent → Bool
is_pass (Command (Pass password)) = true
is_pass event = false

-- neither positive nor preliminary (RFC 959, section 4.2.1)
abbrev pub is_failure : FtpReply → Bool
is_failure reply = not (is_positive reply) && not (is_preliminary_reply reply)

abbrev pub has_failure : List FtpReply → Bool
has_failure [] = false
has_failure (reply ∷ replies) = is_failure reply || has_failure replies

-- a PASS of which a reply reports a failure
abbrev pub is_failed_login : FtpEvent → List FtpReply → Bool
is_failed_login event replies = is_pass event && has_failure replies

-- how many there are among these events and the replies to each of them
abbrev pub failed_logins : List FtpEvent → List (List FtpReply) → ℕ
failed_logins (event ∷ events) (replies ∷ later) =
    (if is_failed_login event replies then 1 else 0) + failed_logins events later
failed_logins _ _ = 0

-- how many fail in the run over some events
abbrev pub failed_in_run : {S : Type 0} → SessionLaw S → S → List FtpEvent → ℕ
failed_in_run law s events =
    let run = run_of law s events in failed_logins run (replies_by_event law s run)

-- the run ends the session, and this is its last reply
abbrev pub EndsWith : {S : Type 0} → FtpReply → SessionLaw S → S → List FtpEvent → Type 0
EndsWith reply law s events = IsTrue (ends law s events)
    × (earlier : List FtpReply) × (replies law s (run_of law s events) ≡ earlier ++ reply ∷ [])

-- the reply to the last one (RFC 959, section 5.4)
abbrev pub too_many : FtpReply
too_many = CodeAndMsg 421 (codes "Too many failed logins, closing control connection")

-- How many more may fail, if they are limited: whether the next one is the last that may, how many
-- are left after one, and whether none is left.
abbrev pub is_last : Option ℕ → Bool
is_last (Some left) = nat_le left 1
is_last None = false

abbrev pub one_fewer : Option ℕ → Option ℕ
one_fewer (Some left) = Some (left - 1)
one_fewer None = None

abbrev pub is_used_up : Option ℕ → Bool
is_used_up (Some left) = left == 0
is_used_up None = false
