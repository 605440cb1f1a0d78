-- What is taken from bytes that come in pieces, one after the other: events by a server (RFC 959,
-- section 5.3), and replies by a client (section 4.2).
use Rattle.std.specs.Prelude.{◌≡◌, ℕ, List, [], ◌∷◌, ◌++◌, drop, Option}
use Rattle.unftp_control_defs.specs.Bytes.{Bytes}
use Rattle.unftp_control_defs.specs.Lines.{IsLine}
use Rattle.unftp_control_defs.specs.Events.{FtpEvent, event_for}
use Rattle.unftp_control_defs.specs.ReplyReader.{FrontReply}

-- The bytes begin with a line of this event, and these are the bytes after it.
pub record TakesEvent (limit : Option ℕ) (before : Bytes) (event : FtpEvent) (after : Bytes)
    : Type 0 where
  pub line : Bytes
  pub is_line : IsLine line
  pub whole : before ≡ line ++ after
  pub meaning : event ≡ event_for limit line

-- The bytes begin with this reply, its code and lines, and these are the bytes after it.
pub record TakesReply (before : Bytes) (reply : ℕ × List Bytes) (after : Bytes) : Type 0 where
  pub used : ℕ
  pub front : FrontReply before reply.0 reply.1 used
  pub after_is : after ≡ drop used before

-- the bytes are these replies, one after the other, and then these bytes
abbrev pub AreReplies : Bytes → List (ℕ × List Bytes) → Bytes → Type 0
AreReplies bytes [] after = after ≡ bytes
AreReplies bytes (reply ∷ replies) after =
    (following : Bytes) × TakesReply bytes reply following × AreReplies following replies after

-- A piece is appended to the pending bytes, or an event or a reply is taken from their start.
pub data TakingStep (A : Type 0) : Type 0 where
  Pushed : Bytes → TakingStep A
  Taken : A → TakingStep A

-- These steps, in any order, make the pending bytes `before` the pending bytes `after`, where
-- `Takes` says what is taken, and which bytes are then pending.
abbrev pub AreTakingSteps : {A : Type 0} → (Bytes → A → Bytes → Type 0) → Bytes
    → List (TakingStep A) → Bytes → Type 0
AreTakingSteps Takes before [] after = after ≡ before
AreTakingSteps Takes before (Pushed piece ∷ steps) after =
    AreTakingSteps Takes (before ++ piece) steps after
AreTakingSteps Takes before (Taken x ∷ steps) after =
    (following : Bytes) × Takes before x following × AreTakingSteps Takes following steps after

-- all pieces that are pushed, as one input
abbrev pub all_pushed : {A : Type 0} → List (TakingStep A) → Bytes
all_pushed [] = []
all_pushed (Pushed piece ∷ steps) = piece ++ all_pushed steps
all_pushed (Taken x ∷ steps) = all_pushed steps

-- all that is taken
abbrev pub all_taken : {A : Type 0} → List (TakingStep A) → List A
all_taken [] = []
all_taken (Pushed piece ∷ steps) = all_taken steps
all_taken (Taken x ∷ steps) = x ∷ all_taken steps
