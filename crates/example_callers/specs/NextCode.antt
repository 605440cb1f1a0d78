-- What a client makes of the replies that it receives (RFC 959, section 4.2).
use Rattle.std.specs.Prelude.{◌≡◌, ◌↔◌, ◌++◌, ℕ, Bool, List, [], IsTrue, IsSome, Option, Some, None, Result, Ok, Err, MatchResult}
use Rattle.unftp_control_defs.specs.Bytes.{Bytes}
use Rattle.unftp_control_client.specs.Exchange.{IsNext, MayBeginTls, NextClientReply, only_reply}
use Rattle.unftp_control_defs.specs.Input.{InputState, HasRead}
use Rattle.unftp_control_read.specs.ReplyDecoding.{NextReply, PendingReplies}
use Rattle.unftp_control_read.specs.Receiving.{Receives}
use Rattle.unftp_control_defs.specs.TakingSteps.{TakesReply}
use Rattle.unftp_control_client.specs.declared.Client.{Client}
use Rattle.unftp_control_read.specs.declared.errors.ReceiveError.{ReceiveError}

-- of a reply only its code
abbrev pub only_code : NextReply ReceiveError → Result (Option ℕ) ReceiveError
only_code (Ok (Some reply)) = Ok (Some reply.code)
only_code (Ok None) = Ok None
only_code (Err error) = Err error

-- what is received of the pending bytes and a reader, and of a reply its code
abbrev pub ReceivesCode : PendingReplies → InputState → Result (Option ℕ) ReceiveError
    → PendingReplies → InputState → Type 0
ReceivesCode before input result after input' = (received : NextReply ReceiveError)
    × Receives before input received after input' × (result ≡ only_code received)

-- whether there is a next reply and it may after it, or what has failed
abbrev pub ReceivesAgreement : Client → InputState → Result Bool ReceiveError → Client
    → InputState → Type 0
ReceivesAgreement before input result after input' =
    (next : NextClientReply ReceiveError)
    × Receives before.replies input (only_reply next) after.replies input'
    × IsNext before.dialogue next after.dialogue
    × MatchResult next
    (λ reply. (agreed : Bool) × (result ≡ Ok agreed)
    × (IsTrue agreed ↔ (IsSome reply × MayBeginTls after)))
    (λ error. result ≡ Err error)

-- The reads gave exactly the rest of a 234 after these pending bytes, and nothing of what follows
-- it.
abbrev pub ReadsAgreement : Bytes → InputState → InputState → Type 0
ReadsAgreement pending input input' = (read : Bytes) × (lines : List Bytes)
    × HasRead input input' read × TakesReply (pending ++ read) (234, lines) []
