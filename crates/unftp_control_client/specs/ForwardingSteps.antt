-- A proxy that forwards lines of its client to a server, passes the server's replies on, and
-- answers the other lines itself, over its dialogue with the server (RFC 959, section 5.4).
use Rattle.std.specs.Prelude.{◌≡◌, ℕ, suc, ◌+◌, List, [], ◌∷◌, Bool, true, false, IsTrue, Option, None, Some, ⊤}
use Rattle.unftp_control_defs.specs.Bytes.{Bytes}
use Rattle.unftp_control_defs.specs.Turns.{is_preliminary}
use Rattle.unftp_control_client.specs.Dialogue.{commands_owed}
use Rattle.unftp_control_client.specs.Steps.{IsDialogueStep, ReplyTo, SentLine, Took, was_owed}
use Rattle.unftp_control_client.specs.declared.dialogue.Dialogue.{Dialogue}
use Rattle.unftp_control_client.specs.declared.dialogue.To.{To}
use Rattle.unftp_control_client.specs.declared.dialogue.To.TheVariants.{Greeting, Command, Nothing}

-- what it does with a line of its client, or with a reply of the server
pub data ForwardingStep : Type 0 where
  Forwarded : Bytes → ForwardingStep
  Passed : ReplyTo → ForwardingStep
  Answered : ℕ × List Bytes → ForwardingStep

abbrev pub IsGreeted : Option ℕ → Type 0
IsGreeted None = ⊥
IsGreeted (Some answered) = ⊤

-- It passes on only a reply that is owed: one to nothing ends the session. It answers a line only
-- where the server has greeted, no command is owed its final reply, and by a final reply.
abbrev pub IsForwardingStep : Dialogue → ForwardingStep → Dialogue → Type 0
IsForwardingStep before (Forwarded line) after = IsDialogueStep before (SentLine line) after
IsForwardingStep before (Passed taken) after =
    IsDialogueStep before (Took taken) after × IsTrue (was_owed taken)
IsForwardingStep before (Answered reply) after =
    IsGreeted before.answered × (commands_owed before ≡ 0)
    × (is_preliminary reply.0 ≡ false) × (after ≡ before)

abbrev pub AreForwardingSteps : Dialogue → List ForwardingStep → Dialogue → Type 0
AreForwardingSteps before [] after = after ≡ before
AreForwardingSteps before (step ∷ steps) after =
    (next : Dialogue) × IsForwardingStep before step next × AreForwardingSteps next steps after

-- the place of a line among all of the client, where so many before it were answered by the proxy
abbrev pub among_all : ℕ → To → To
among_all answered Greeting = Greeting
among_all answered (Command place) = Command (answered + place)
among_all answered Nothing = Nothing

-- What the client gets, each reply with what it is to, where so many lines were answered by the
-- proxy, and so many forwarded.
abbrev pub replies_given : ℕ → ℕ → List ForwardingStep → List ReplyTo
replies_given answered forwarded [] = []
replies_given answered forwarded (Forwarded line ∷ steps) =
    replies_given answered (suc forwarded) steps
replies_given answered forwarded (Passed taken ∷ steps) =
    record { to = among_all answered taken.to; reply = taken.reply }
    ∷ replies_given answered forwarded steps
replies_given answered forwarded (Answered reply ∷ steps) =
    record { to = Command (answered + forwarded); reply = reply }
    ∷ replies_given (suc answered) forwarded steps

-- The step takes a line of the client.
abbrev pub is_line : ForwardingStep → Bool
is_line (Forwarded line) = true
is_line (Passed taken) = false
is_line (Answered reply) = true
