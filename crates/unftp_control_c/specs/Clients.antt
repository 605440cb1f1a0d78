-- What a client in C keeps of its dialogue with a server (RFC 959, section 5.4).
use Rattle.std.specs.Prelude.{ℕ, ◌==◌, ◌&&◌, Bool, not, if◌then◌else◌, Option, None, Some}
use Rattle.unftp_control_client.specs.Dialogue.{commands_owed}
use Rattle.unftp_control_client.specs.declared.dialogue.Dialogue.{Dialogue}
use Rattle.unftp_control_client.specs.declared.order.Order.{Order}
use Rattle.unftp_control_client.specs.declared.dialogue.To.{To}
use Rattle.unftp_control_client.specs.declared.dialogue.To.TheVariants.{Greeting, Command, Nothing}
use Rattle.unftp_control_c.specs.declared.client.Client.{Client}

-- a number that is there where the flag is not 0
abbrev pub flagged : ℕ → ℕ → Option ℕ
flagged flag number = if flag == 0 then None else Some number

abbrev pub dialogue_of : Client → Dialogue
dialogue_of client = record {
  sent = client.sent;
  answered = flagged client.greeted client.answered;
  asked = flagged client.asks client.asked;
  agreed = not (client.agreed == 0);
}

-- with the line that a proxy has taken
abbrev pub order_of : Client → Order
order_of client = record { dialogue = dialogue_of client; taken = not (client.taken == 0) }

-- before the first line and the first reply
abbrev pub new_client : Client
new_client =
    record { sent = 0; answered = 0; asked = 0; greeted = 0; asks = 0; agreed = 0; taken = 0 }

-- what a reply is to, by its number, and the place of a command
abbrev pub to_number : To → ℕ
to_number Greeting = 0
to_number (Command place) = 1
to_number Nothing = 2

abbrev pub place_in : To → ℕ
place_in Greeting = 0
place_in (Command place) = place
place_in Nothing = 0

-- TLS may begin where the last reply was a 234 to the last command that asks for it, no command is
-- owed a reply, and no byte is pending (RFC 4217, section 4).
abbrev pub may_begin_tls : Dialogue → ℕ → Bool
may_begin_tls dialogue pending =
    dialogue.agreed && ((commands_owed dialogue == 0) && (pending == 0))
