-- What passes a proxy: what came from both sides, in whatever pieces; what became of the client's
-- lines; what was sent and given, in turn; and the bytes of both.
use Rattle.std.specs.Prelude.{◌≡◌, ◌≤◌, List, [], ◌∷◌, ◌++◌, Option, Some, None, flat_map, map, max, true}
use Rattle.std.specs.List.{AllByRecursion, concat, filter_map}
use Rattle.unftp_control_defs.specs.Bytes.{Bytes}
use Rattle.unftp_control_defs.specs.FtpReply.{FtpReply, encoded}
use Rattle.unftp_control_defs.specs.Lines.{IsLine}
use Rattle.unftp_control_defs.specs.Outcome.{outcome}
use Rattle.unftp_control_client.specs.ForwardingSteps.{AreForwardingSteps, Answered, Forwarded, ForwardingStep, Passed, replies_given}
use Rattle.unftp_control_client.specs.Steps.{ReplyTo}
use Rattle.unftp_control_client.specs.declared.dialogue.To.{To}
use Rattle.unftp_control_proxy.specs.ProxyAnswers.{as_read, is_answer}
use Rattle.unftp_control_proxy.specs.ProxyCalls.{AnsweredBy, Fate, IsWholeReply, ProxyState, ReplyBytes, SentAs, server_owes}

pub record DecidedLine : Type 0 where
  pub line : Bytes
  pub fate : Fate

-- a reply of the server, what it is to, and the one that the client was given for it: the same, or
-- another
pub record PassedReply : Type 0 where
  pub to : To
  pub came : ReplyBytes
  pub given : ReplyBytes

-- A line is sent to the server; or the client is given a reply of the server, or the proxy's own.
pub data ProxyStep : Type 0 where
  SendsLine : Bytes → ProxyStep
  GivesReply : PassedReply → ProxyStep
  GivesOwn : FtpReply → ProxyStep

pub record Traffic : Type 0 where
  pub from_client : Bytes
  pub from_server : Bytes
  pub lines : List DecidedLine
  pub steps : List ProxyStep
  pub to_client : Bytes
  pub to_server : Bytes

abbrev pub no_traffic : Traffic
no_traffic = record {
  from_client = [];
  from_server = [];
  lines = [];
  steps = [];
  to_client = [];
  to_server = [];
}

-- first this, and then that
abbrev pub joined_traffic : Traffic → Traffic → Traffic
joined_traffic first later = record {
  from_client = first.from_client ++ later.from_client;
  from_server = first.from_server ++ later.from_server;
  lines = first.lines ++ later.lines;
  steps = first.steps ++ later.steps;
  to_client = first.to_client ++ later.to_client;
  to_server = first.to_server ++ later.to_server;
}

-- ---- of the lines

-- what is sent for a line, and at once
abbrev pub sent_for : Fate → List Bytes
sent_for (SentAs line) = line ∷ []
sent_for (AnsweredBy reply) = []

abbrev pub sends_for : Fate → List ProxyStep
sends_for (SentAs line) = SendsLine line ∷ []
sends_for (AnsweredBy reply) = []

-- and for all of them
abbrev pub all_sent : List DecidedLine → List Bytes
all_sent lines = flat_map (λ decided. sent_for decided.fate) lines

abbrev pub client_lines : List DecidedLine → List Bytes
client_lines lines = map (λ decided. decided.line) lines

abbrev pub fates_of : List DecidedLine → List Fate
fates_of lines = map (λ decided. decided.fate) lines

-- What is sent for it is one line; a client reads the reply as one, and no other one follows it.
abbrev pub IsSingle : Fate → Type 0
IsSingle (SentAs line) = IsLine line
IsSingle (AnsweredBy reply) = is_answer reply ≡ true

abbrev pub IsDecidedLine : DecidedLine → Type 0
IsDecidedLine decided = IsLine decided.line × IsSingle decided.fate

-- ---- of what is given

-- the line that a step is of, as it was decided, if it is of one
abbrev pub fate_by_step : ProxyStep → Option Fate
fate_by_step (SendsLine line) = Some (SentAs line)
fate_by_step (GivesReply passed) = None
fate_by_step (GivesOwn reply) = Some (AnsweredBy reply)

abbrev pub fates_in : List ProxyStep → List Fate
fates_in steps = filter_map fate_by_step steps

-- the answer that is not given yet
abbrev pub held_fate : Option FtpReply → List Fate
held_fate None = []
held_fate (Some reply) = AnsweredBy reply ∷ []

-- the server's replies
abbrev pub passed_by_step : ProxyStep → Option PassedReply
passed_by_step (GivesReply passed) = Some passed
passed_by_step _ = None

abbrev pub passed_in : List ProxyStep → List PassedReply
passed_in steps = filter_map passed_by_step steps

abbrev pub bytes_that_came : List PassedReply → Bytes
bytes_that_came replies = flat_map (λ passed. passed.came.bytes) replies

-- what the client is given by a step
abbrev pub given_by_step : ProxyStep → Bytes
given_by_step (SendsLine line) = []
given_by_step (GivesReply passed) = passed.given.bytes
given_by_step (GivesOwn reply) = encoded reply

abbrev pub given_in : List ProxyStep → Bytes
given_in steps = flat_map given_by_step steps

-- both are one reply, of the same code
abbrev pub IsPassedReply : PassedReply → Type 0
IsPassedReply passed = IsWholeReply passed.came × IsWholeReply passed.given
    × (passed.given.code ≡ passed.came.code)

-- As steps of a proxy over its dialogue with the server; and the replies that its client is given,
-- each with what it is to.
abbrev pub forwarding_step : ProxyStep → ForwardingStep
forwarding_step (SendsLine line) = Forwarded line
forwarding_step (GivesReply passed) =
    Passed (record { to = passed.to; reply = (passed.given.code, passed.given.lines) })
forwarding_step (GivesOwn reply) = Answered (as_read reply)

abbrev pub forwarding_steps : List ProxyStep → List ForwardingStep
forwarding_steps steps = map forwarding_step steps

abbrev pub client_replies : List ProxyStep → List ReplyTo
client_replies steps = replies_given 0 0 (forwarding_steps steps)

-- ---- one piece of either side, one line, one step

abbrev pub client_piece : Bytes → Traffic
client_piece piece = record no_traffic { from_client = piece }

abbrev pub server_piece : Bytes → Traffic
server_piece piece = record no_traffic { from_server = piece }

abbrev pub one_line : Bytes → Fate → Traffic
one_line line fate = record no_traffic {
  lines = record { line = line; fate = fate } ∷ [];
  steps = sends_for fate;
  to_server = concat (sent_for fate);
}

abbrev pub one_reply : PassedReply → Traffic
one_reply passed = record no_traffic {
  steps = GivesReply passed ∷ [];
  to_client = passed.given.bytes;
}

abbrev pub one_answer : FtpReply → Traffic
one_answer reply = record no_traffic {
  steps = GivesOwn reply ∷ [];
  to_client = encoded reply;
}

-- All of this passed between two states of a proxy.
pub record IsTraffic (before : ProxyState) (traffic : Traffic) (later : ProxyState) : Type 0 where
  -- the lines are the first ones of what the client sent, and the replies those of the server
  pub client : before.client.bytes ++ traffic.from_client
      ≡ concat (client_lines traffic.lines) ++ later.client.bytes
  pub lines : AllByRecursion IsDecidedLine traffic.lines
  pub server : before.server.bytes ++ traffic.from_server
      ≡ bytes_that_came (passed_in traffic.steps) ++ later.server.bytes
  pub replies : AllByRecursion IsPassedReply (passed_in traffic.steps)
  -- the server is sent the lines that were decided for it, and the client given its replies and the
  -- proxy's own; nothing else is sent
  pub to_server : traffic.to_server ≡ concat (all_sent traffic.lines)
  pub to_client : traffic.to_client ≡ given_in traffic.steps
  -- each line has its fate in turn, but an answer that is not given yet
  pub fates : held_fate before.answer ++ fates_of traffic.lines
      ≡ fates_in traffic.steps ++ held_fate later.answer
  -- these are steps over the dialogue with the server, which owes no more than it may
  pub steps : AreForwardingSteps before.dialogue (forwarding_steps traffic.steps) later.dialogue
  pub bounded : server_owes later.dialogue ≤ max (server_owes before.dialogue) before.limits.waiting
  pub limits : later.limits ≡ before.limits
  pub line_limit : later.client.limit ≡ before.client.limit

-- ---- where nothing is changed

-- what is sent for the line means the same
abbrev pub KeepsLine : Bytes → Fate → Type 0
KeepsLine line (SentAs sent) = outcome sent ≡ outcome line
KeepsLine line (AnsweredBy reply) = ⊥

-- each reply is given as it came
abbrev pub AreAsTheyCame : List PassedReply → Type 0
AreAsTheyCame replies = AllByRecursion (λ passed. passed.given ≡ passed.came) replies

-- So is each line sent, and each reply given.
pub record ChangesNothing (traffic : Traffic) : Type 0 where
  pub lines : AllByRecursion (λ decided. KeepsLine decided.line decided.fate) traffic.lines
  pub replies : AreAsTheyCame (passed_in traffic.steps)
