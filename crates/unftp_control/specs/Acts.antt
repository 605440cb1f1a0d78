-- What a client and a server do at the two ends of a control connection, in any order: lines and
-- pieces go either way while replies are taken (RFC 959, sections 4.2 and 5.4).
use Rattle.std.specs.Prelude.{◌≡◌, ℕ, List, [], ◌∷◌, ◌++◌, map, option_map, Option, Some, None}
use Rattle.std.specs.List.{AllByRecursion, concat, filter_map}
use Rattle.unftp_control_defs.specs.Bytes.{Bytes}
use Rattle.unftp_control_defs.specs.FtpReply.{FtpReply, IsReadable, encoded, reply_as_read}
use Rattle.unftp_control_defs.specs.Lines.{IsLine}
use Rattle.unftp_control_defs.specs.Run.{SessionLaw, all_replies, replies_by_event, run_for, text_for}
use Rattle.unftp_control_defs.specs.Turns.{IsExchange}
use Rattle.unftp_control_defs.specs.TakingSteps.{all_pushed}
use Rattle.unftp_control_serve.specs.Writing.{Begins}
use Rattle.unftp_control_client.specs.Exchange.{new_client}
use Rattle.unftp_control_client.specs.Steps.{AreClientSteps, ClientStep, ReplyTo, after_to, decoder_steps, lines_sent, replies_taken}
use Rattle.unftp_control_client.specs.declared.Client.{Client}
use Rattle.unftp_control_client.specs.declared.dialogue.To.{To}

-- The client takes a step, or a piece comes to the server.
pub data Act : Type 0 where
  AtClient : ClientStep → Act
  AtServer : Bytes → Act

abbrev pub at_client : Act → Option ClientStep
at_client (AtClient step) = Some step
at_client (AtServer piece) = None

abbrev pub at_server : Act → Option Bytes
at_server (AtClient step) = None
at_server (AtServer piece) = Some piece

abbrev pub client_steps : List Act → List ClientStep
client_steps acts = filter_map at_client acts

-- the lines that the client sent, and what of them came to the server
abbrev pub lines_of_client : List Act → List Bytes
lines_of_client acts = lines_sent (client_steps acts)

abbrev pub sent_by_client : List Act → Bytes
sent_by_client acts = concat (lines_of_client acts)

abbrev pub came_to_server : List Act → Bytes
came_to_server acts = concat (filter_map at_server acts)

-- what came to the client, and the replies that it took from that
abbrev pub came_to_client : List Act → Bytes
came_to_client acts = all_pushed (decoder_steps (client_steps acts))

abbrev pub taken_by_client : List Act → List ReplyTo
taken_by_client acts = replies_taken (client_steps acts)

-- A server: its handler's law and first state, the limit of its lines, and the reply with which it
-- greets the client.
pub record Server (S : Type 0) : Type 1 where
  pub law : SessionLaw S
  pub state : S
  pub limit : Option ℕ
  pub greeting : FtpReply

-- what it has written once this came
abbrev pub written_by : {S : Type 0} → Server S → Bytes → Bytes
written_by server input =
    encoded server.greeting ++ text_for server.limit server.law server.state input

-- what it says to that: the greeting, and its replies to each line
abbrev pub turns_to : {S : Type 0} → Server S → Bytes → List (List FtpReply)
turns_to server input = (server.greeting ∷ [])
    ∷ replies_by_event server.law server.state
    (run_for server.limit server.law server.state input)

-- No byte comes before it was sent: what came is the beginning of what was sent until then.
pub record InOrder {S : Type 0} (server : Server S) (acts : List Act) : Type 0 where
  pub to_server : Begins (sent_by_client acts) (came_to_server acts)
  pub to_client : Begins (written_by server (came_to_server acts)) (came_to_client acts)

-- A new client and a server have done this, and the client sent lines: so it is at each time.
pub record IsConversation {S : Type 0} (server : Server S) (limit : Option ℕ) (acts : List Act)
    (client : Client) : Type 0 where
  pub steps : AreClientSteps (new_client limit) (client_steps acts) client
  pub lines : AllByRecursion IsLine (lines_of_client acts)
  pub in_order : (before later : List Act) → acts ≡ before ++ later → InOrder server before

-- The client can read back each of the replies, and knows which are to which line: those to each
-- are some preliminary ones and then a final one.
pub record IsUnderstood (turns : List (List FtpReply)) : Type 0 where
  pub readable : AllByRecursion IsReadable (all_replies turns)
  pub exchanges : AllByRecursion IsExchange turns

-- What is read of these replies: the first ones are to this, and those of each later list to what
-- comes next, the commands in the order of their lines.
abbrev pub reply_at : To → FtpReply → Option ReplyTo
reply_at to reply = option_map (λ read. record { to = to; reply = read }) (reply_as_read reply)

abbrev pub exchanges : To → List (List FtpReply) → List (Option ReplyTo)
exchanges to [] = []
exchanges to (turn ∷ turns) = map (reply_at to) turn ++ exchanges (after_to to) turns

-- The replies that were taken are the first of these.
abbrev pub AreFirst : List ReplyTo → List (Option ReplyTo) → Type 0
AreFirst taken all = Begins all (map Some taken)
