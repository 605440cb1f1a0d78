-- What transfers come to, by what the data connection answers; and the law of a session with them.
use Rattle.std.specs.Prelude.{◌≡◌, ℕ, zero, suc, ◌+◌, nat_le, Bool, false, if◌then◌else◌, List, [], ◌∷◌, ◌++◌, bytes_eq, drop, length, take, codes, Option, None, Some, option_to_list}
use Rattle.unftp_control_defs.specs.Bytes.{Bytes}
use Rattle.unftp_control_defs.specs.Events.{FtpEvent, Command, Refused, is_quit, out_of_memory}
use Rattle.unftp_control_defs.specs.FtpCommand as line
use Rattle.unftp_control_defs.specs.FtpReply.{FtpReply, CodeAndMsg}
use Rattle.unftp_control_defs.specs.Run.{SessionLaw}
use Rattle.example_callers.specs.DataAnswers.{DataAnswer, Opened, Took, Gave, Closed, OpenFailed, SendFailed, ReceiveFailed, CloseFailed}
use Rattle.example_callers.specs.declared.transfers.transfer.Ending.{Ending}
use Rattle.example_callers.specs.declared.transfers.transfer.Ending.TheVariants.{Complete, NotOpened, Aborted, NotClosed}
use Rattle.example_callers.specs.declared.transfers.transfer.Transfer.{Transfer}
use Rattle.example_callers.specs.declared.transfers.transfer.Transfer.TheVariants.{Retrieve, Store}
use Rattle.example_callers.specs.declared.transfers.session.Transfers.{Transfers}

-- ---- one transfer

-- how it ended, after how many calls, and which bytes were transferred
pub record TransferOutcome : Type 0 where
  pub ending : Ending
  pub used : ℕ
  pub bytes : Bytes

-- after so many calls and no bytes
abbrev pub ends_after : ℕ → Ending → TransferOutcome
ends_after used ending = record { ending = ending; used = used; bytes = [] }

-- after so many calls and these bytes
abbrev pub preceded_by : ℕ → Bytes → TransferOutcome → TransferOutcome
preceded_by n bytes later = record {
  ending = later.ending;
  used = later.used + n;
  bytes = bytes ++ later.bytes;
}

-- The connection is closed, then all is done. Here and below an answer to any other call is not
-- used; and the call is made in any case, so it counts also where there is no answer.
abbrev pub closing : List DataAnswer → TransferOutcome
closing (Closed ∷ answers) = ends_after 1 Complete
closing (CloseFailed ∷ answers) = ends_after 1 NotClosed
closing [] = ends_after 1 NotClosed
closing _ = ends_after 0 NotClosed

-- These bytes are offered, each time all that are left, until it took them, and then it is closed.
abbrev pub sending : Bytes → List DataAnswer → TransferOutcome
sending [] answers = closing answers
sending (b ∷ bytes) (Took offered (suc n) ∷ answers) = if bytes_eq offered (b ∷ bytes)
    then preceded_by 1 (take (suc n) (b ∷ bytes)) (sending (drop (suc n) (b ∷ bytes)) answers)
    else ends_after 0 Aborted
sending (b ∷ bytes) (Took offered zero ∷ answers) =
    ends_after (if bytes_eq offered (b ∷ bytes) then 1 else 0) Aborted
sending (b ∷ bytes) (SendFailed ∷ answers) = ends_after 1 Aborted
sending (b ∷ bytes) [] = ends_after 1 Aborted
sending (b ∷ bytes) _ = ends_after 0 Aborted

-- Bytes are received until it gives none, and then it is closed.
abbrev pub receiving : List DataAnswer → TransferOutcome
receiving (Gave [] ∷ answers) = preceded_by 1 [] (closing answers)
receiving (Gave (b ∷ bytes) ∷ answers) = preceded_by 1 (b ∷ bytes) (receiving answers)
receiving (ReceiveFailed ∷ answers) = ends_after 1 Aborted
receiving [] = ends_after 1 Aborted
receiving _ = ends_after 0 Aborted

-- First of all it is opened.
abbrev pub with_opening : (List DataAnswer → TransferOutcome) → List DataAnswer → TransferOutcome
with_opening transfer (Opened ∷ answers) = preceded_by 1 [] (transfer answers)
with_opening transfer (OpenFailed ∷ answers) = ends_after 1 NotOpened
with_opening transfer [] = ends_after 1 NotOpened
with_opening transfer _ = ends_after 0 NotOpened

-- a transfer of the file from here on
abbrev pub transfer_outcome : Transfer → Bytes → List DataAnswer → TransferOutcome
transfer_outcome Retrieve bytes = with_opening (sending bytes)
transfer_outcome Store bytes = with_opening receiving

-- ---- the session

-- Which transfer is to follow; where in the file it begins (RFC 3659, section 5); the file; how
-- many calls of the data connection were made; and whether QUIT came.
pub record TransferState : Type 0 where
  pub pending : Option Transfer
  pub offset : ℕ
  pub file : Bytes
  pub used : ℕ
  pub quit : Bool

-- of a session over a connection that gave these answers
abbrev pub state_of : {D : Type 0} → (D → List DataAnswer) → Transfers D → TransferState
state_of answers transfers = record {
  pending = transfers.pending;
  offset = transfers.offset;
  file = transfers.file.items;
  used = length (answers transfers.connection);
  quit = transfers.quit;
}

-- how often it failed
abbrev pub transfer_failures : {D : Type 0} → Transfers D → ℕ
transfer_failures transfers = transfers.failures

-- before the first event
abbrev pub new_transfers : List DataAnswer → Bytes → TransferState
new_transfers answers file = record {
  pending = None;
  offset = 0;
  file = file;
  used = length answers;
  quit = false;
}

-- RETR and STOR transfer the file, whichever path they name (RFC 959, section 4.1.3).
abbrev pub transfer_of : FtpEvent → Option Transfer
transfer_of (Command (line.Retr path)) = Some Retrieve
transfer_of (Command (line.Stor path)) = Some Store
transfer_of _ = None

-- REST says where the next transfer begins, up to the end of the file (RFC 3659, section 5.3): one
-- that is beyond it changes nothing.
abbrev pub offset_after : ℕ → ℕ → FtpEvent → ℕ
offset_after offset end (Command (line.Rest to)) = if nat_le to end then to else offset
offset_after offset end _ = offset

-- to RETR and STOR, before the transfer
abbrev pub opening_reply : FtpReply
opening_reply = CodeAndMsg 150 (codes "Opening data connection")

-- to REST
abbrev pub restart_reply : FtpReply
restart_reply = CodeAndMsg 350 (codes "Send RETR or STOR to transfer from there")

abbrev pub beyond_end_reply : FtpReply
beyond_end_reply = CodeAndMsg 501 (codes "Beyond the end of the file")

-- the first reply to an event (RFC 959, section 5.4), where the file has so many bytes
abbrev pub first_reply : ℕ → FtpEvent → FtpReply
first_reply end (Command (line.Retr path)) = opening_reply
first_reply end (Command (line.Stor path)) = opening_reply
first_reply end (Command (line.Rest to)) = if nat_le to end then restart_reply else beyond_end_reply
first_reply end (Command line.TypeCode) = CodeAndMsg 200 (codes "Always in image type")
first_reply end (Command line.Abor) = CodeAndMsg 226 (codes "No transfer in progress")
first_reply end (Command line.Quit) = CodeAndMsg 221 (codes "Bye")
first_reply end (Command _) = CodeAndMsg 502 (codes "Not implemented")
first_reply end (Refused fault) = CodeAndMsg 500 (codes "Not understood")

-- and the one after a transfer
abbrev pub final_reply : Ending → FtpReply
final_reply Complete = CodeAndMsg 226 (codes "Transfer complete")
final_reply NotOpened = CodeAndMsg 425 (codes "Can't open data connection")
final_reply Aborted = CodeAndMsg 426 (codes "Connection closed; transfer aborted")
final_reply NotClosed = CodeAndMsg 451 (codes "Data connection could not be closed")

-- A file is stored as a whole, or not at all: what is before the offset stays, and what was
-- received comes after it.
abbrev pub stored : ℕ → Bytes → Ending → Bytes → Bytes
stored offset file Complete received = take offset file ++ received
stored offset file _ received = file

-- The offset is of one transfer only.
abbrev pub after_transfer : TransferState → Transfer → TransferOutcome → TransferState
after_transfer s Retrieve outcome = record s {
  pending = None;
  offset = 0;
  used = s.used + outcome.used;
}
after_transfer s Store outcome = record s {
  pending = None;
  offset = 0;
  file = stored s.offset s.file outcome.ending outcome.bytes;
  used = s.used + outcome.used;
}

-- what the transfer that is to follow comes to, by all that the data connection answers in the
-- session
abbrev pub outcome_in : TransferState → Transfer → List DataAnswer → TransferOutcome
outcome_in s transfer answers =
    transfer_outcome transfer (drop s.offset s.file) (drop s.used answers)

-- the reply that follows, where a transfer does
abbrev pub follow_up : TransferState → Option Transfer → List DataAnswer
    → List (FtpReply × TransferState)
follow_up s None answers = []
follow_up s (Some transfer) answers = let outcome = outcome_in s transfer answers in
    (final_reply outcome.ending, after_transfer s transfer outcome) ∷ []

-- The law of a session, by all that its data connection answers.
abbrev pub transfers_law : List DataAnswer → SessionLaw TransferState
transfers_law answers = record {
  says = λ s event. first_reply (length s.file) event;
  next = λ s event. record s {
    pending = transfer_of event;
    offset = offset_after s.offset (length s.file) event;
    quit = is_quit event;
  };
  more = λ s. follow_up s s.pending answers;
  may_fail = λ s event fault. fault ≡ out_of_memory;
  may_break = λ s fault. ¬ (s.pending ≡ None) × (fault ≡ out_of_memory);
  done = λ s. s.quit;
}

-- how many replies are to follow
abbrev pub left_in : TransferState → ℕ
left_in s = length (option_to_list s.pending)
