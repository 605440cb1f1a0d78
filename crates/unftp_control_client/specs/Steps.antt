-- Whole runs of a client: its calls one after the other, and the replies that it takes.
use Rattle.std.specs.Prelude.{◌≡◌, ℕ, suc, Bool, not, if◌then◌else◌, IsTrue, List, [], ◌∷◌, ◌++◌, length, Option, Some, None, ⊤}
use Rattle.std.specs.List.{filter, filter_map}
use Rattle.unftp_control_defs.specs.Bytes.{Bytes}
use Rattle.unftp_control_defs.specs.TakingSteps.{TakesReply, TakingStep, Pushed, Taken}
use Rattle.unftp_control_read.specs.ReplyDecoding.{content}
use Rattle.unftp_control_defs.specs.Turns.{is_preliminary}
pub use Rattle.unftp_control_client.specs.Dialogue.{is_something}
use Rattle.unftp_control_client.specs.Dialogue.{after_command, after_reply, asks_for_tls, next_to}
use Rattle.unftp_control_client.specs.declared.Client.{Client}
use Rattle.unftp_control_client.specs.declared.dialogue.ClientReply.{ClientReply}
use Rattle.unftp_control_client.specs.declared.dialogue.Dialogue.{Dialogue}
use Rattle.unftp_control_client.specs.declared.dialogue.To.{To}
use Rattle.unftp_control_client.specs.declared.dialogue.To.TheVariants.{Greeting, Command, Nothing}

-- a reply, its code and lines, and what it is to
pub record ReplyTo : Type 0 where
  pub to : To
  pub reply : ℕ × List Bytes

-- what a reply of a client holds, whatever the capacity of its lines
abbrev pub reply_to : ClientReply → ReplyTo
reply_to taken = record { to = taken.to; reply = content taken.reply }

-- A client sends a line, receives a piece, or takes a reply.
pub data ClientStep : Type 0 where
  SentLine : Bytes → ClientStep
  Received : Bytes → ClientStep
  Took : ReplyTo → ClientStep

-- what each changes of how far the dialogue has come
abbrev pub IsDialogueStep : Dialogue → ClientStep → Dialogue → Type 0
IsDialogueStep before (SentLine line) after = after ≡ after_command line before
IsDialogueStep before (Received piece) after = after ≡ before
IsDialogueStep before (Took taken) after =
    (taken.to ≡ next_to before) × (after ≡ after_reply before taken.reply.0)

-- and of the pending bytes
abbrev pub ChangesBytes : Bytes → ClientStep → Bytes → Type 0
ChangesBytes before (SentLine line) after = after ≡ before
ChangesBytes before (Received piece) after = after ≡ before ++ piece
ChangesBytes before (Took taken) after = TakesReply before taken.reply after

abbrev pub IsClientStep : Client → ClientStep → Client → Type 0
IsClientStep before step after = IsDialogueStep before.dialogue step after.dialogue
    × ChangesBytes before.replies.bytes step after.replies.bytes

-- one after the other
abbrev pub AreClientSteps : Client → List ClientStep → Client → Type 0
AreClientSteps before [] after = (after.dialogue ≡ before.dialogue)
    × (after.replies.bytes ≡ before.replies.bytes)
AreClientSteps before (step ∷ steps) after =
    (next : Client) × IsClientStep before step next × AreClientSteps next steps after

-- of a caller that keeps the bytes itself
abbrev pub AreDialogueSteps : Dialogue → List ClientStep → Dialogue → Type 0
AreDialogueSteps before [] after = after ≡ before
AreDialogueSteps before (step ∷ steps) after =
    (next : Dialogue) × IsDialogueStep before step next × AreDialogueSteps next steps after

-- the line that a step sends, and those of some steps
abbrev pub line_of_step : ClientStep → Option Bytes
line_of_step (SentLine line) = Some line
line_of_step _ = None

abbrev pub lines_sent : List ClientStep → List Bytes
lines_sent steps = filter_map line_of_step steps

-- the replies that were taken
abbrev pub taken_by : ClientStep → Option ReplyTo
taken_by (Took taken) = Some taken
taken_by _ = None

abbrev pub replies_taken : List ClientStep → List ReplyTo
replies_taken steps = filter_map taken_by steps

-- and those of them that were owed
abbrev pub was_owed : ReplyTo → Bool
was_owed taken = is_something taken.to

abbrev pub replies_owed : List ClientStep → List ReplyTo
replies_owed steps = filter was_owed (replies_taken steps)

-- what comes from the server, and what is taken of it
abbrev pub decoder_step : ClientStep → Option (TakingStep (ℕ × List Bytes))
decoder_step (SentLine line) = None
decoder_step (Received piece) = Some (Pushed piece)
decoder_step (Took taken) = Some (Taken taken.reply)

abbrev pub decoder_steps : List ClientStep → List (TakingStep (ℕ × List Bytes))
decoder_steps steps = filter_map decoder_step steps

-- The reply completes its exchange.
abbrev pub is_final : ReplyTo → Bool
is_final taken = not (is_preliminary taken.reply.0)

-- what the next exchange is to
abbrev pub after_to : To → To
after_to Greeting = Command 0
after_to (Command place) = Command (suc place)
after_to Nothing = Nothing

-- The replies are exchanges in order, of which the first is to this, each next one to the next
-- command: some preliminary replies and then a final one. The last may lack its final reply.
abbrev pub AreExchanges : To → List ReplyTo → Type 0
AreExchanges to [] = ⊤
AreExchanges to (taken ∷ replies) =
    (taken.to ≡ to) × AreExchanges (if is_final taken then after_to to else to) replies

-- The last line that was sent asks for TLS, and the last reply that was taken is a 234 to it.
pub record EndsInAgreement (steps : List ClientStep) : Type 0 where
  pub lines : List Bytes
  pub line : Bytes
  pub sent : lines_sent steps ≡ lines ++ line ∷ []
  pub asks : IsTrue (asks_for_tls line)
  pub replies : List ReplyTo
  pub texts : List Bytes
  pub taken : replies_taken steps
      ≡ replies ++ record { to = Command (length lines); reply = (234, texts) } ∷ []
