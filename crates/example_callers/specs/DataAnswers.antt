-- What a data connection answers to its calls (RFC 959, section 3.2).
use Rattle.std.specs.Prelude.{ℕ, ◌==◌, if◌then◌else◌, take, List, [], ◌∷◌, ◌++◌, Result, Ok, Err}
use Rattle.unftp_control_defs.specs.Bytes.{Bytes}

-- It was opened; of these bytes it took so many of the first; it gave these bytes, of which there
-- are none at the end of the data; it was closed; or this call failed.
pub data DataAnswer : Type 0 where
  Opened : DataAnswer
  Took : Bytes → ℕ → DataAnswer
  Gave : Bytes → DataAnswer
  Closed : DataAnswer
  OpenFailed : DataAnswer
  SendFailed : DataAnswer
  ReceiveFailed : DataAnswer
  CloseFailed : DataAnswer

abbrev pub answer_to_open : {T E : Type 0} → Result T E → DataAnswer
answer_to_open (Ok _) = Opened
answer_to_open (Err _) = OpenFailed

-- where these bytes were offered to it
abbrev pub answer_to_send : {E : Type 0} → Bytes → Result ℕ E → DataAnswer
answer_to_send bytes (Ok n) = Took bytes n
answer_to_send bytes (Err _) = SendFailed

-- where it filled a buffer so
abbrev pub answer_to_receive : {E : Type 0} → Bytes → Result ℕ E → DataAnswer
answer_to_receive buffer (Ok n) = Gave (take n buffer)
answer_to_receive buffer (Err _) = ReceiveFailed

abbrev pub answer_to_close : {T E : Type 0} → Result T E → DataAnswer
answer_to_close (Ok _) = Closed
answer_to_close (Err _) = CloseFailed

-- by number, of so many bytes
abbrev pub numbered_answer : ℕ → ℕ → Bytes → DataAnswer
numbered_answer number n bytes = if number == 0 then Opened else if number == 1 then Took bytes n
    else if number == 2 then Gave (take n bytes) else if number == 3 then Closed
    else if number == 4 then OpenFailed else if number == 5 then SendFailed
    else if number == 6 then ReceiveFailed else CloseFailed

-- the bytes that were sent by these calls, and those that were received
abbrev pub sent_in : List DataAnswer → Bytes
sent_in [] = []
sent_in (Took bytes n ∷ answers) = take n bytes ++ sent_in answers
sent_in (_ ∷ answers) = sent_in answers

abbrev pub received_in : List DataAnswer → Bytes
received_in [] = []
received_in (Gave bytes ∷ answers) = bytes ++ received_in answers
received_in (_ ∷ answers) = received_in answers
