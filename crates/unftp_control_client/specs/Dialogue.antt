-- How far the dialogue of a client with a server has come (RFC 959, sections 4.2 and 5.4). The
-- server greets the client, and then replies to its commands in order. Each gets some preliminary
-- replies and then a final one.
use Rattle.std.specs.Prelude.{ℕ, suc, ◌-◌, ◌&&◌, ◌||◌, ◌==◌, Bool, false, true, if◌then◌else◌, nat_le, nat_lt, Option, Some, None, unwrap_or, codes}
use Rattle.std.specs.Str.{str_eq_ignore_ascii_case}
use Rattle.unftp_control_defs.specs.Bytes.{Bytes}
use Rattle.unftp_control_defs.specs.Turns.{is_preliminary}
use Rattle.unftp_control_client.specs.declared.dialogue.To.{To}
use Rattle.unftp_control_client.specs.declared.dialogue.To.TheVariants.{Greeting, Command, Nothing}
use Rattle.unftp_control_client.specs.declared.dialogue.Dialogue.{Dialogue}

-- nothing was sent or received
abbrev pub new_dialogue : Dialogue
new_dialogue = record { sent = 0; answered = None; asked = None; agreed = false }

-- how many commands are owed their final reply
abbrev pub commands_owed : Dialogue → ℕ
commands_owed dialogue = dialogue.sent - unwrap_or dialogue.answered 0

-- The line asks for TLS (RFC 4217, section 4): AUTH with its mechanism, or with SSL, an older name
-- of the same. The case of letters is ignored (RFC 959, section 5.3; RFC 2228, section 3). A line
-- of AUTH with any other mechanism doesn't: 234 to that begins no TLS.
abbrev pub asks_for_tls : Bytes → Bool
asks_for_tls line = str_eq_ignore_ascii_case line (codes "AUTH TLS\r\n")
    || str_eq_ignore_ascii_case line (codes "AUTH TLS\n")
    || str_eq_ignore_ascii_case line (codes "AUTH SSL\r\n")
    || str_eq_ignore_ascii_case line (codes "AUTH SSL\n")

-- One more command was sent, with this line.
abbrev pub after_command : Bytes → Dialogue → Dialogue
after_command line dialogue = record dialogue {
  sent = suc dialogue.sent;
  asked = if asks_for_tls line then Some dialogue.sent else dialogue.asked;
}

-- What the next reply is to: the greeting, until it is complete, and then the first command that
-- has no final reply. Where each of those that were sent has one, no reply is owed.
abbrev pub first_owed : Option ℕ → ℕ → To
first_owed None sent = Greeting
first_owed (Some answered) sent = if nat_lt answered sent then Command answered else Nothing

abbrev pub next_to : Dialogue → To
next_to dialogue = first_owed dialogue.answered dialogue.sent

-- The next reply is owed.
abbrev pub is_something : To → Bool
is_something Nothing = false
is_something _ = true

abbrev pub owes_reply : Dialogue → Bool
owes_reply dialogue = is_something (next_to dialogue)

-- The command of this place has no final reply, where so many have one.
abbrev pub is_unanswered : Option ℕ → Option ℕ → Bool
is_unanswered None answered = false
is_unanswered (Some place) answered = nat_le (unwrap_or answered 0) place

-- The last command that asks for TLS is owed its reply.
abbrev pub awaits_tls : Dialogue → Bool
awaits_tls dialogue = is_unanswered dialogue.asked dialogue.answered

-- A final reply to this came.
abbrev pub after_final : Dialogue → To → Dialogue
after_final dialogue Greeting = record dialogue { answered = Some 0 }
after_final dialogue (Command place) = record dialogue { answered = Some (suc place) }
after_final dialogue Nothing = dialogue

-- the command of this place is the one that asks
abbrev pub is_place : ℕ → Option ℕ → Bool
is_place place None = false
is_place place (Some asked) = asked == place

-- The server agrees to begin TLS: 234 to the last command that asks for it (RFC 4217, section 4).
abbrev pub agrees : To → Option ℕ → ℕ → Bool
agrees (Command place) asked code = (code == 234) && is_place place asked
agrees _ asked code = false

-- A reply with this code came.
abbrev pub after_reply : Dialogue → ℕ → Dialogue
after_reply dialogue code =
    record (if is_preliminary code then dialogue else after_final dialogue (next_to dialogue)) {
      agreed = agrees (next_to dialogue) dialogue.asked code;
    }
