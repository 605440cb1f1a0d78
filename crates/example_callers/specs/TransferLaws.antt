-- What a client learns of its transfers by their replies.
use Rattle.std.specs.Prelude.{◌≡◌, ◌-◌, List, [], ◌∷◌, ◌++◌, drop, take}
use Rattle.unftp_control_defs.specs.Bytes.{Bytes}
use Rattle.unftp_control_defs.specs.Events.{FtpEvent, Command}
use Rattle.unftp_control_defs.specs.FtpCommand.{Retr, Stor}
use Rattle.unftp_control_defs.specs.FtpReply.{FtpReply}
use Rattle.unftp_control_defs.specs.Run.{after, turn_replies, turn}
use Rattle.unftp_control_serve.specs.Writing.{Begins}
use Rattle.example_callers.specs.DataAnswers.{DataAnswer, received_in, sent_in}
use Rattle.example_callers.specs.Transfers.{TransferState, final_reply, opening_reply, transfers_law}
use Rattle.example_callers.specs.declared.transfers.transfer.Ending.{Ending}
use Rattle.example_callers.specs.declared.transfers.transfer.Ending.TheVariants.{Complete}

module _ (answers : List DataAnswer) (s : TransferState) where
  abbrev pub state_after_event : FtpEvent → TransferState
  state_after_event event = after (transfers_law answers) s event

  abbrev pub replies_to : FtpEvent → List FtpReply
  replies_to event = turn_replies (turn (transfers_law answers) s event)

  -- what the data connection answers to the calls for an event
  abbrev pub answers_for : FtpEvent → List DataAnswer
  answers_for event = take ((state_after_event event).used - s.used) (drop s.used answers)

-- the replies are 150 and then 226
abbrev pub Completes : List FtpReply → Type 0
Completes replies = replies ≡ opening_reply ∷ final_reply Complete ∷ []

-- the states before and after an event, its replies, and what the data connection answered for it
abbrev pub AtEvent : (TransferState → TransferState → List FtpReply → List DataAnswer → Type 0)
    → List DataAnswer → TransferState → FtpEvent → Type 0
AtEvent IsSo answers s event = IsSo s (state_after_event answers s event)
    (replies_to answers s event) (answers_for answers s event)

module _ (s s' : TransferState) (replies : List FtpReply) (answers : List DataAnswer) where
  -- RETR: 150, and one final reply. What was sent is a beginning of the file from the offset on,
  -- and all of it where the final reply is 226.
  pub record Retrieves : Type 0 where
    pub ending : Ending
    pub replied : replies ≡ opening_reply ∷ final_reply ending ∷ []
    pub beginning : Begins (drop s.offset s.file) (sent_in answers)
    pub all : Completes replies → sent_in answers ≡ drop s.offset s.file
    pub kept : s'.file ≡ s.file

  -- STOR: 150, and one final reply. Where that is 226, what was received comes after the bytes
  -- before the offset; else the file is as it was.
  pub record Stores : Type 0 where
    pub ending : Ending
    pub replied : replies ≡ opening_reply ∷ final_reply ending ∷ []
    pub all : Completes replies → s'.file ≡ take s.offset s.file ++ received_in answers
    pub kept : ¬ Completes replies → s'.file ≡ s.file
    pub none_sent : sent_in answers ≡ []

  -- Any other event: nothing is transferred, and no call is made.
  pub record TransfersNothing : Type 0 where
    pub file : s'.file ≡ s.file
    pub no_call : answers ≡ []
    pub used : s'.used ≡ s.used

-- STOR at no offset, and then RETR: where both are answered 226, the bytes that are sent are those
-- that were received.
abbrev pub ComesBack : List DataAnswer → TransferState → Bytes → Bytes → Type 0
ComesBack answers s to from =
    let stored = state_after_event answers s (Command (Stor to)) in
    s.offset ≡ 0 → Completes (replies_to answers s (Command (Stor to)))
    → Completes (replies_to answers stored (Command (Retr from)))
    → sent_in (answers_for answers stored (Command (Retr from)))
    ≡ received_in (answers_for answers s (Command (Stor to)))
