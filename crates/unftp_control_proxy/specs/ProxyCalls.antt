-- What the calls of a proxy do to it, and what they append.
use Rattle.std.specs.Prelude.{⊤, ◌≡◌, ◌⊎◌, ℕ, ◌+◌, ◌^◌, ◌-◌, ◌<◌, ◌≤◌, ◌||◌, ◌&&◌, Bool, true, false, nat_le, not, List, ◌++◌, Option, Some, None, IfSome, Result, Ok, Err, IsTrue, drop, is_some, length, option_map, take}
use Rattle.std.specs.Global.{Vec}
use Rattle.unftp_control_defs.specs.Bytes.{Bytes}
use Rattle.unftp_control_defs.specs.Forwarded.{forwarded_line}
use Rattle.unftp_control_defs.specs.FtpCommand.{FtpCommand}
use Rattle.unftp_control_defs.specs.FtpReply.{FtpReply, encoded}
use Rattle.unftp_control_defs.specs.Lines.{IsLine}
use Rattle.unftp_control_defs.specs.Outcome.{outcome}
use Rattle.unftp_control_defs.specs.ReplyReader.{FrontReply}
use Rattle.unftp_control_defs.specs.Room.{LacksRoom}
use Rattle.unftp_control_read.specs.ReplyDecoding.{BeginsWithReply, FindsFirst, PendingReplies, no_bytes as no_reply_bytes, settled as settled_replies}
use Rattle.unftp_control_read.specs.declared.decoder.FirstReply.{FirstReply}
use Rattle.unftp_control_read.specs.declared.errors.NextReplyError.{NextReplyError}
use Rattle.unftp_control_read.specs.declared.errors.NextReplyError.TheVariants as next
use Rattle.unftp_control_serve.specs.ClientLines.{front_line}
use Rattle.unftp_control_serve.specs.Decoder.{Pending, no_bytes, without_line}
use Rattle.unftp_control_write.specs.ClearLines.{is_clear}
use Rattle.unftp_control_write.specs.Forwarding.{IsForwardError, LacksRoomFor}
use Rattle.unftp_control_write.specs.declared.forwarding.ForwardError.{ForwardError}
use Rattle.unftp_control_write.specs.declared.forwarding.ForwardError.TheVariants as forward
use Rattle.unftp_control_client.specs.Dialogue.{after_command, after_reply, new_dialogue, awaits_tls, commands_owed, owes_reply}
use Rattle.unftp_control_client.specs.declared.dialogue.Dialogue.{Dialogue}
use Rattle.unftp_control_proxy.specs.ProxyAnswers.{IsNoAnswer, IsReplyOf, answer_reply, is_answer}
use Rattle.unftp_control_proxy.specs.declared.answer.Answer.{Answer}
use Rattle.unftp_control_proxy.specs.declared.proxy.Limits.{Limits}
use Rattle.unftp_control_proxy.specs.declared.proxy.NextReply.{NextReply}
use Rattle.unftp_control_proxy.specs.declared.proxy.NextReply.TheVariants as given
use Rattle.unftp_control_proxy.specs.declared.errors.ReplaceError.{ReplaceError}
use Rattle.unftp_control_proxy.specs.declared.errors.ReplaceError.TheVariants as replace
use Rattle.unftp_control_proxy.specs.declared.errors.SendError.{SendError}
use Rattle.unftp_control_proxy.specs.declared.errors.SendError.TheVariants as send

pub record ProxyState : Type 0 where
  -- what came from both sides and was not taken
  pub client : Pending
  pub server : PendingReplies
  -- which reply is to which of the lines that were sent to the server
  pub dialogue : Dialogue
  -- the proxy's own answer to the line after these, until it is given
  pub answer : Option FtpReply
  pub limits : Limits

abbrev pub proxy_state : Pending → PendingReplies → Dialogue → Option Answer → Limits → ProxyState
proxy_state client server dialogue answer limits = record {
  client = client;
  server = server;
  dialogue = dialogue;
  answer = option_map answer_reply answer;
  limits = limits;
}

-- nothing was said: the client is owed the server's greeting
abbrev pub new_proxy : Limits → ProxyState
new_proxy limits = record {
  client = no_bytes (Some limits.line);
  server = no_reply_bytes (Some limits.reply);
  dialogue = new_dialogue;
  answer = None;
  limits = limits;
}

-- ---- the client's lines

-- how many replies the server owes: the greeting, and the final ones to commands
abbrev pub greeting_owed : Option ℕ → ℕ
greeting_owed None = 1
greeting_owed (Some answered) = 0

abbrev pub server_owes : Dialogue → ℕ
server_owes dialogue = commands_owed dialogue + greeting_owed dialogue.answered

-- As many are owed as may be; or an answer waits to be given, or a line for TLS to begin.
abbrev pub waits : ProxyState → Bool
waits proxy = nat_le proxy.limits.waiting (server_owes proxy.dialogue)
    || (is_some proxy.answer || awaits_tls proxy.dialogue)

-- The client's first line may have been searched, and nothing else has changed. No byte is
-- scanned twice.
pub record IsScannedFor (before later : ProxyState) : Type 0 where
  pub same : later ≡ record before { client = later.client }
  pub bytes : later.client.bytes ≡ before.client.bytes
  pub limit : later.client.limit ≡ before.client.limit
  pub scanned : later.client.scanned + later.client.unscanned
      ≡ before.client.scanned + before.client.unscanned
  pub buffered : later.client.buffered ≤ before.client.buffered

-- the client's first line was found, and may be taken
pub record IsDecidable (proxy : ProxyState) : Type 0 where
  pub found : IsTrue proxy.client.found
  pub is_line : IsLine (front_line proxy.client.bytes)
  pub goes_on : waits proxy ≡ false

-- This line is sent to the server for the client's; or the client is given this reply instead.
pub data Fate : Type 0 where
  SentAs : Bytes → Fate
  AnsweredBy : FtpReply → Fate

-- The line is taken, with this fate.
abbrev pub after_fate : ProxyState → Fate → ProxyState
after_fate proxy (SentAs line) = record proxy {
  client = without_line proxy.client;
  dialogue = after_command line proxy.dialogue;
}
after_fate proxy (AnsweredBy reply) = record proxy {
  client = without_line proxy.client;
  answer = Some reply;
}

-- the line may be sent
pub record MayBeSent (limit : ℕ) (line : Bytes) : Type 0 where
  pub is_line : IsLine line
  pub short : length line ≤ limit
  pub clear : is_clear line ≡ true

-- as many lines were sent as are counted
abbrev pub IsFull : Dialogue → Type 0
IsFull dialogue = dialogue.sent ≡ 2 ^ 64 - 1

-- why a line is not sent
abbrev pub IsUnsent : ℕ → Bytes → SendError → Type 0
IsUnsent limit line send.NotALine = ¬ IsLine line
IsUnsent limit line send.TooLong = (is_clear line ≡ true) × (limit < length line)
IsUnsent limit line send.Unclear = IsLine line × (is_clear line ≡ false)
IsUnsent limit line _ = ⊥

-- why a line is not sent that is not forwarded for this reason
abbrev pub send_error : ForwardError → SendError
send_error forward.NotALine = send.NotALine
send_error (forward.Refused kind) = send.Refused kind
send_error forward.OutOfMemory = send.OutOfMemory

-- why this line may not be sent in place of the client's
abbrev pub IsCheckError : ProxyState → Bytes → SendError → Type 0
IsCheckError proxy line send.NoLine = ¬ IsDecidable proxy
IsCheckError proxy line error = IsDecidable proxy × IsUnsent proxy.limits.sent line error

-- why it is not sent where it was appended: it may not be, or too many were
abbrev pub IsAppendedError : ProxyState → Bytes → SendError → Type 0
IsAppendedError proxy line send.TooManyCommands =
    IsDecidable proxy × MayBeSent proxy.limits.sent line × IsFull proxy.dialogue
IsAppendedError proxy line error = IsCheckError proxy line error

-- and where it is to be appended to these bytes: they lack room for it
abbrev pub IsSendError : ProxyState → Bytes → Vec ℕ → SendError → Type 0
IsSendError proxy line out send.OutOfMemory =
    IsDecidable proxy × MayBeSent proxy.limits.sent line × LacksRoom out line
IsSendError proxy line out error = IsAppendedError proxy line error

-- why the client's line, which is this, is not sent, clear or not
abbrev pub IsUnclearError : ProxyState → Bytes → Vec ℕ → SendError → Type 0
IsUnclearError proxy line out send.NoLine = ¬ IsDecidable proxy
IsUnclearError proxy line out send.NotALine = IsDecidable proxy × ¬ IsLine line
IsUnclearError proxy line out send.TooLong =
    IsDecidable proxy × IsLine line × (proxy.limits.sent < length line)
IsUnclearError proxy line out send.TooManyCommands =
    IsDecidable proxy × IsLine line × IsFull proxy.dialogue
IsUnclearError proxy line out send.OutOfMemory =
    IsDecidable proxy × IsLine line × (length line ≤ proxy.limits.sent) × LacksRoom out line
IsUnclearError proxy line out _ = ⊥

-- The line that would be forwarded is not sent.
pub record IsForwardedUnsent (proxy : ProxyState) (line : Bytes) (error : SendError) : Type 0 where
  pub command : FtpCommand
  pub means : outcome line ≡ Ok command
  pub unsent : IsAppendedError proxy (forwarded_line line command) error

-- why the client's line, which is this, is not forwarded
abbrev pub IsForwardingError : ProxyState → Bytes → Vec ℕ → SendError → Type 0
IsForwardingError proxy line out send.NoLine = ¬ IsDecidable proxy
IsForwardingError proxy line out send.NotALine = IsDecidable proxy × ¬ IsLine line
IsForwardingError proxy line out (send.Refused kind) =
    IsDecidable proxy × IsForwardError line (forward.Refused kind)
IsForwardingError proxy line out send.OutOfMemory = IsDecidable proxy × LacksRoomFor line out
IsForwardingError proxy line out error =
    IsDecidable proxy × IsForwardedUnsent proxy line error

-- why this line is not answered with it
abbrev pub IsAnswerError : ProxyState → FtpReply → SendError → Type 0
IsAnswerError proxy reply send.NoLine = ¬ IsDecidable proxy
IsAnswerError proxy reply error = IsDecidable proxy × IsNoAnswer reply error

-- The server has agreed to begin TLS, and owes no reply.
pub record BeginsTls (proxy : ProxyState) : Type 0 where
  pub agreed : IsTrue proxy.dialogue.agreed
  pub none_owed : commands_owed proxy.dialogue ≡ 0

-- ---- what the client is given

-- The proxy's own answer is given once the server owes no reply.
abbrev pub is_due : ProxyState → Bool
is_due proxy = is_some proxy.answer && not (owes_reply proxy.dialogue)

-- a reply of a server: its code and lines, and all its bytes
pub record ReplyBytes : Type 0 where
  pub code : ℕ
  pub lines : List Bytes
  pub bytes : Bytes

abbrev pub IsWholeReply : ReplyBytes → Type 0
IsWholeReply reply = FrontReply reply.bytes reply.code reply.lines (length reply.bytes)

-- The server's bytes begin with this reply, and these are the bytes after it.
pub record TakesReplyBytes (before : PendingReplies) (reply : ReplyBytes) (later : PendingReplies)
    : Type 0 where
  pub used : ℕ
  pub front : FrontReply before.bytes reply.code reply.lines used
  pub within : IfSome before.limit (λ limit. used ≤ limit)
  pub bytes_are : reply.bytes ≡ take used before.bytes
  pub later_is : later ≡ record before { bytes = drop used before.bytes }

-- It is the reply that is owed next, and the client is given this one for it.
pub record PassesReply (before : ProxyState) (came given : ReplyBytes) (later : ProxyState)
    : Type 0 where
  pub owed : owes_reply before.dialogue ≡ true
  pub takes : TakesReplyBytes before.server came later.server
  pub whole : IsWholeReply given
  pub same_code : given.code ≡ came.code
  pub later_is : later ≡ record before {
    server = later.server;
    dialogue = after_reply before.dialogue came.code;
  }

-- The client is given this answer.
pub record GivesAnswer (before : ProxyState) (reply : FtpReply) (later : ProxyState)
    : Type 0 where
  pub held : before.answer ≡ Some reply
  pub none_owed : owes_reply before.dialogue ≡ false
  pub single : is_answer reply ≡ true
  pub later_is : later ≡ record before { answer = None }

-- the server's first reply has this code, and no line is owed it
pub record IsUnasked (proxy : ProxyState) (code : ℕ) : Type 0 where
  pub none_due : is_due proxy ≡ false
  pub none_owed : owes_reply proxy.dialogue ≡ false
  pub begins : (used : ℕ) × BeginsWithReply proxy.server.limit proxy.server.bytes code used

-- The replies that were given have left the buffer.
abbrev pub with_settled : ProxyState → ProxyState
with_settled proxy = record proxy { server = settled_replies proxy.server }

-- no answer is due, no reply is complete, and no reply that was given is in the buffer
pub record IsGiven (proxy : ProxyState) : Type 0 where
  pub none_due : is_due proxy ≡ false
  pub no_reply : FindsFirst proxy.server.limit proxy.server.bytes (Ok None)
  pub settled : proxy.server.buffered ≡ length proxy.server.bytes

-- There is nothing to be given, and what was given leaves the buffer. Or the answer that is due is
-- given; or the reply that is owed next, as it came; or a reply came that is not owed, and stays.
abbrev pub GivesNext : ProxyState → Option NextReply → Bytes → Bytes → ProxyState → Type 0
GivesNext before None out out' later =
    (out' ≡ out) × (later ≡ with_settled before) × IsGiven later
GivesNext before (Some given.Answered) out out' later = (reply : FtpReply)
    × (out' ≡ out ++ encoded reply) × GivesAnswer before reply later
GivesNext before (Some (given.Passed code)) out out' later = (reply : ReplyBytes)
    × (reply.code ≡ code) × (out' ≡ out ++ reply.bytes) × PassesReply before reply reply later
GivesNext before (Some (given.Unasked code)) out out' later =
    (out' ≡ out) × (later ≡ before) × IsUnasked before code

-- the server's first reply is owed: its code, and how many bytes it has
abbrev pub IsOwedFirst : ProxyState → ℕ → ℕ → Type 0
IsOwedFirst proxy code used = (owes_reply proxy.dialogue ≡ true)
    × BeginsWithReply proxy.server.limit proxy.server.bytes code used

-- the bytes lack room for the answer that is due, or for the reply that is owed next
pub record LacksRoomForAnswer (proxy : ProxyState) (out : Vec ℕ) : Type 0 where
  pub reply : FtpReply
  pub held : proxy.answer ≡ Some reply
  pub due : is_due proxy ≡ true
  pub room : LacksRoom out (encoded reply)

abbrev pub LacksRoomForReply : ProxyState → Vec ℕ → Type 0
LacksRoomForReply proxy out = (code : ℕ) × (used : ℕ) × IsOwedFirst proxy code used
    × LacksRoom out (take used proxy.server.bytes)

-- why nothing is given
abbrev pub IsNextError : ProxyState → Vec ℕ → NextReplyError → Type 0
IsNextError proxy out next.OutOfMemory =
    LacksRoomForAnswer proxy out ⊎ LacksRoomForReply proxy out
IsNextError proxy out error = (is_due proxy ≡ false)
    × FindsFirst proxy.server.limit proxy.server.bytes (Err error)

-- Another one is given in place of the reply that is owed next.
pub record GivesOther (before : ProxyState) (other out out' : Bytes) (later : ProxyState)
    : Type 0 where
  pub came : ReplyBytes
  pub given : ReplyBytes
  pub bytes : given.bytes ≡ other
  pub appended : out' ≡ out ++ other
  pub passes : PassesReply before came given later

-- No reply is complete, or what the server sent is none.
abbrev pub IsNoReply : Result (Option FirstReply) NextReplyError → Type 0
IsNoReply (Ok (Some reply)) = ⊥
IsNoReply _ = ⊤

abbrev pub HasNoFirstReply : ProxyState → Type 0
HasNoFirstReply proxy = (found : Result (Option FirstReply) NextReplyError)
    × FindsFirst proxy.server.limit proxy.server.bytes found × IsNoReply found

-- why this other one is not given
abbrev pub IsReplaceError : ProxyState → Bytes → Vec ℕ → ReplaceError → Type 0
IsReplaceError proxy other out replace.NoReply = HasNoFirstReply proxy
IsReplaceError proxy other out replace.NotOwed = (owes_reply proxy.dialogue ≡ false)
    × ((code : ℕ) × (used : ℕ) × BeginsWithReply proxy.server.limit proxy.server.bytes code used)
IsReplaceError proxy other out replace.AnotherReply = (code : ℕ) × (used : ℕ)
    × IsOwedFirst proxy code used × ¬ IsReplyOf code other
IsReplaceError proxy other out replace.OutOfMemory = (code : ℕ) × (used : ℕ)
    × IsOwedFirst proxy code used × IsReplyOf code other × LacksRoom out other
