-- What the examples speak of.
use Rattle.std.specs.Prelude.{ℕ, false, List, [], ◌∷◌, ◌++◌, codes, map, None}
use Rattle.unftp_control_defs.specs.Bytes.{Bytes}
use Rattle.unftp_control_defs.specs.Events.{FtpEvent, Command}
use Rattle.unftp_control_defs.specs.FtpCommand.{Retr, Stor}
use Rattle.unftp_control_defs.specs.FtpReply.{FtpReply, CodeAndMsg}
use Rattle.example_callers.specs.DataAnswers.{DataAnswer, Opened, Took, Gave, Closed}
use Rattle.example_callers.specs.TransferLaws.{replies_to, state_after_event}
use Rattle.example_callers.specs.Transfers.{TransferState, final_reply, opening_reply}
use Rattle.example_callers.specs.declared.transfers.transfer.Ending.{Ending}

abbrev pub abc : Bytes
abc = codes "abc"

abbrev pub retr : FtpEvent
retr = Command (Retr (codes "f"))

abbrev pub stor : FtpEvent
stor = Command (Stor (codes "f"))

-- no transfer is to follow; the next one begins here in the file; and the first two answers were
-- used
abbrev pub holding : ℕ → Bytes → TransferState
holding offset file =
    record { pending = None; offset = offset; file = file; used = 2; quit = false }

-- two answers that were used, and these after them
abbrev pub later : List DataAnswer → List DataAnswer
later answers = Opened ∷ Closed ∷ answers

-- all of the file was sent, or these bytes were received
abbrev pub all_data_sent : List DataAnswer
all_data_sent = Opened ∷ Took abc 1 ∷ Took (codes "bc") 2 ∷ Closed ∷ []

abbrev pub all_received : List DataAnswer
all_received = Opened ∷ Gave (codes "x") ∷ Gave (codes "yz") ∷ Gave [] ∷ Closed ∷ []

-- all that was received is sent back
abbrev pub stored_and_sent : List DataAnswer
stored_and_sent = all_received ++ Opened ∷ Took (codes "xyz") 3 ∷ Closed ∷ []

abbrev pub code_in : FtpReply → ℕ
code_in (CodeAndMsg code text) = code
code_in _ = 0

-- the codes of the replies to an event, and the file after it
abbrev pub codes_to : List DataAnswer → FtpEvent → List ℕ
codes_to answers event = map code_in (replies_to (later answers) (holding 0 abc) event)

abbrev pub file_after : List DataAnswer → ℕ → FtpEvent → Bytes
file_after answers offset event =
    (state_after_event (later answers) (holding offset abc) event).file

-- the replies to a transfer that ended so
abbrev pub replies_at : Ending → List FtpReply
replies_at ending = opening_reply ∷ final_reply ending ∷ []
