-- A server with an event loop of its own: what it replies to each event, and what it does then.
use Rattle.std.specs.Prelude.{◌≡◌, ◌⊎◌, List, [], ◌∷◌, ◌++◌, flat_map, codes}
use Rattle.unftp_control_defs.specs.Bytes.{Bytes}
use Rattle.unftp_control_serve.specs.Decoder.{FindsNoLine, Pending, StaysPending}
use Rattle.unftp_control_defs.specs.TakingSteps.{TakesEvent}
use Rattle.unftp_control_defs.specs.Events.{FtpEvent, Command, Refused}
use Rattle.unftp_control_defs.specs.FtpCommand.{Auth, Quit, Retr}
use Rattle.unftp_control_defs.specs.FtpReply.{FtpReply, CodeAndMsg, encoded}
use Rattle.unftp_control_defs.specs.declared.parameters.AuthParam.TheVariants.{Tls}
use Rattle.example_callers.specs.declared.event_loop.Turn.{Turn}
use Rattle.example_callers.specs.declared.event_loop.Turn.TheVariants.{Read, GoOn, Close, StartTls}

-- AUTH TLS is agreed to where its line is the last of what is pending: what comes after it in clear
-- text is not read under TLS (RFC 4217, section 4).
abbrev pub loop_replies : FtpEvent → Bytes → List FtpReply
loop_replies (Command (Retr _)) _ =
    CodeAndMsg 150 (codes "Sending data") ∷ CodeAndMsg 226 (codes "Sent") ∷ []
loop_replies (Command Quit) _ = CodeAndMsg 221 (codes "Bye") ∷ []
loop_replies (Command (Auth Tls)) [] = CodeAndMsg 234 (codes "Begin TLS") ∷ []
loop_replies (Command _) _ = CodeAndMsg 502 (codes "Not here") ∷ []
loop_replies (Refused _) _ = CodeAndMsg 500 (codes "Not understood") ∷ []

abbrev pub turn_after : FtpEvent → Bytes → Turn
turn_after (Command Quit) _ = Close
turn_after (Command (Auth Tls)) [] = StartTls
turn_after _ _ = GoOn

-- what is pending then: where the connection is closed, nothing
abbrev pub left_after : Turn → Bytes → Bytes
left_after Close following = []
left_after _ following = following

-- The first line is taken, and its event is answered so.
pub record AnswersEvent (before : Pending) (sent : Bytes) (turn : Turn) (after : Pending)
    (sent' : Bytes) : Type 0 where
  pub event : FtpEvent
  pub following : Bytes
  pub takes : TakesEvent before.limit before.bytes event following
  pub turn_is : turn ≡ turn_after event following
  pub left : after.bytes ≡ left_after turn following
  pub appended : sent' ≡ sent ++ flat_map encoded (loop_replies event following)

-- No line is pending, and the server reads on; or the first line is answered.
abbrev pub AnswersNext : Pending → Bytes → Turn → Pending → Bytes → Type 0
AnswersNext before sent turn after sent' =
    ((turn ≡ Read) × FindsNoLine before after × (sent' ≡ sent))
    ⊎ AnswersEvent before sent turn after sent'

-- Nothing is appended, though there is a first line: it stays, or is taken and not answered.
pub record LeavesUnanswered (before : Pending) (sent : Bytes) (after : Pending) (sent' : Bytes)
    : Type 0 where
  pub event : FtpEvent
  pub following : Bytes
  pub is_first : TakesEvent before.limit before.bytes event following
  pub line : StaysPending before after ⊎ (after.bytes ≡ following)
  pub same : sent' ≡ sent
