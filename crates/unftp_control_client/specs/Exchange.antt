-- What the calls of a client return, and what they leave.
use Rattle.std.specs.Prelude.{◌≡◌, ℕ, IsTrue, [], ◌-◌, ◌^◌, Option, Some, None, Result, Ok, Err}
use Rattle.unftp_control_read.specs.ReplyDecoding.{NextReply, no_bytes}
use Rattle.unftp_control_write.specs.declared.WriteCommandError.{WriteCommandError}
use Rattle.unftp_control_write.specs.declared.WriteCommandError.TheVariants as refusal
use Rattle.unftp_control_client.specs.Dialogue.{after_reply, new_dialogue, commands_owed, next_to}
use Rattle.unftp_control_client.specs.declared.Client.{Client}
use Rattle.unftp_control_client.specs.declared.dialogue.ClientReply.{ClientReply}
use Rattle.unftp_control_client.specs.declared.dialogue.Dialogue.{Dialogue}
use Rattle.unftp_control_client.specs.declared.errors.SendError.{SendError}
use Rattle.unftp_control_client.specs.declared.errors.SendError.TheVariants.{NoLine, NotALine, OutOfMemory, TooManyCommands}

-- a client that has sent and received nothing
abbrev pub new_client : Option ℕ → Client
new_client limit = record { replies = no_bytes limit; dialogue = new_dialogue }

-- the error that a refusal is
abbrev pub send_error_of : WriteCommandError → SendError
send_error_of refusal.NoLine = NoLine
send_error_of refusal.OutOfMemory = OutOfMemory

-- an error of one line: room was lacking for it, or there are too many where the count of those
-- sent is full
abbrev pub IsOtherError : ℕ → Type 0 → SendError → Type 0
IsOtherError sent lacks_room NoLine = ⊥
IsOtherError sent lacks_room NotALine = ⊥
IsOtherError sent lacks_room OutOfMemory = lacks_room
IsOtherError sent lacks_room TooManyCommands = sent ≡ 2 ^ 64 - 1

-- a reply, if any, or an error
abbrev pub NextClientReply : Type 0 → Type 0
NextClientReply Error = Result (Option ClientReply) Error

-- the reply without what it is to
abbrev pub only_reply : {E : Type 0} → NextClientReply E → NextReply E
only_reply (Ok (Some taken)) = Ok (Some taken.reply)
only_reply (Ok None) = Ok None
only_reply (Err error) = Err error

-- A reply is to what the next one is to, and changes how far the dialogue has come. Nothing else
-- does.
abbrev pub IsNext : {E : Type 0} → Dialogue → NextClientReply E → Dialogue → Type 0
IsNext before (Ok (Some taken)) after =
    (taken.to ≡ next_to before) × (after ≡ after_reply before taken.reply.code)
IsNext before (Ok None) after = after ≡ before
IsNext before (Err error) after = after ≡ before

-- TLS may begin: the last reply was a 234 to the last command that asks for it, and nothing is
-- pending. No command is owed a reply, so that it was the last (RFC 4217, section 4).
abbrev pub MayBeginTls : Client → Type 0
MayBeginTls client = IsTrue client.dialogue.agreed × (commands_owed client.dialogue ≡ 0)
    × (client.replies.bytes ≡ [])
