-- Replies and states of a client for the examples.
use Rattle.std.specs.Prelude.{ℕ, Bool, false, List, [], ◌∷◌, Option, Some, None, codes}
use Rattle.unftp_control_defs.specs.Bytes.{Bytes}
use Rattle.unftp_control_read.specs.ReplyDecoding.{appended, no_bytes}
use Rattle.unftp_control_defs.specs.FtpReply.{CodeAndMsg}
use Rattle.unftp_control_defs.specs.TakingSteps.{TakingStep, Pushed, Taken}
use Rattle.unftp_control_client.specs.Steps.{Received, ReplyTo, SentLine, Took}
use Rattle.unftp_control_client.specs.declared.Client.{Client}
use Rattle.unftp_control_client.specs.declared.dialogue.Dialogue.{Dialogue}
use Rattle.unftp_control_client.specs.declared.dialogue.To.{To}
use Rattle.unftp_control_client.specs.declared.dialogue.To.TheVariants.{Command, Greeting}
use Rattle.unftp_control_proxy.specs.ProxyCalls.{ProxyState, ReplyBytes, SentAs, new_proxy}
use Rattle.unftp_control_proxy.specs.Traffic.{GivesReply, ProxyStep, SendsLine, Traffic}
use Rattle.unftp_control_proxy.specs.declared.proxy.Limits.{Limits}
use Rattle.unftp_control.specs.Acts.{Act, AtClient, AtServer, Server}
use Rattle.unftp_control.specs.Snapshots.{farewell}

-- lines that a client sends
abbrev pub noop : Bytes
noop = codes "NOOP\r\n"

abbrev pub retr : Bytes
retr = codes "RETR x\r\n"

-- a reply with this code and an empty text, to this
abbrev pub reply_with : ℕ → To → ReplyTo
reply_with code to = record { to = to; reply = (code, [] ∷ []) }

abbrev pub auth_tls : Bytes
auth_tls = codes "AUTH TLS\r\n"

-- A server that greets with 220, and then answers as `farewell` does. NOOP is sent to it and
-- answered.
abbrev pub farewell_server : Server Bool
farewell_server =
    record { law = farewell; state = false; limit = None; greeting = CodeAndMsg 220 [] }

abbrev pub talk : List Act
talk = AtClient (SentLine noop) ∷ AtServer noop ∷ AtClient (Received (codes "220\r\n2"))
    ∷ AtClient (Took (reply_with 220 Greeting)) ∷ AtClient (Received (codes "00\r\n"))
    ∷ AtClient (Took (reply_with 200 (Command 0))) ∷ []

-- The same through a proxy: NOOP passes as it came, and so do the greeting and the reply.
abbrev pub reply_of_bytes : ℕ → Bytes → ReplyBytes
reply_of_bytes code bytes = record { code = code; lines = [] ∷ []; bytes = bytes }

abbrev pub passed_reply : To → ReplyBytes → ProxyStep
passed_reply to reply = GivesReply (record { to = to; came = reply; given = reply })

abbrev pub noop_traffic : Traffic
noop_traffic = record {
  from_client = noop;
  from_server = codes "220\r\n200\r\n";
  lines = record { line = noop; fate = SentAs noop } ∷ [];
  steps = passed_reply Greeting (reply_of_bytes 220 (codes "220\r\n")) ∷ SendsLine noop
      ∷ passed_reply (Command 0) (reply_of_bytes 200 (codes "200\r\n")) ∷ [];
  to_client = codes "220\r\n200\r\n";
  to_server = noop;
}

-- The greeting and the reply come in two pieces, and are taken.
abbrev pub replies_in_pieces : List (TakingStep (ℕ × List Bytes))
replies_in_pieces = Pushed (codes "220\r\n2") ∷ Taken (220, [] ∷ []) ∷ Pushed (codes "00\r\n")
    ∷ Taken (200, [] ∷ []) ∷ []

-- So many commands were sent, none for TLS, and so many of them have their final reply.
abbrev pub dialogue : ℕ → Option ℕ → Dialogue
dialogue sent answered =
    record { sent = sent; answered = answered; asked = None; agreed = false }

-- a proxy that was new before that
abbrev pub after_noop : Limits → ProxyState
after_noop limits = record (new_proxy limits) { dialogue = dialogue 1 (Some 1) }

-- the same where the command of this place asked for TLS last, and whether the last reply was a 234
-- to it
abbrev pub asking : ℕ → Option ℕ → ℕ → Bool → Dialogue
asking sent answered place agreed =
    record { sent = sent; answered = answered; asked = Some place; agreed = agreed }

-- a client with these bytes pending
abbrev pub client_with : Dialogue → Bytes → Client
client_with dialogue bytes =
    record { replies = appended (no_bytes None) bytes; dialogue = dialogue }
