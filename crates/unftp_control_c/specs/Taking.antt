-- What a caller of `unftp_next` does with a connection, call after call, and what it is given.
use Rattle.std.specs.Prelude.{◌≡◌, ℕ, ◌+◌, ◌-◌, ◌==◌, ◌||◌, ◌⊎◌, Bool, if◌then◌else◌, List, [], ◌∷◌, ◌++◌, length, drop}
use Rattle.unftp_control_defs.specs.Bytes.{Bytes}
use Rattle.unftp_control_defs.specs.Events.{FaultKind}
use Rattle.unftp_control_defs.specs.Events as fault
use Rattle.unftp_control_c.specs.declared.next.Connection.{Connection}
use Rattle.unftp_control_c.specs.declared.status.Status.TheVariants.{More, OutOfMemory, NoRoom}
use Rattle.unftp_control_c.specs.Numbers.{status_number}
use Rattle.unftp_control_c.specs.Next.{NextCall, Given, Leaves, Left, call_with, name_in, scans, value_in}

-- what a caller has of a connection from call to call
pub record Caller : Type 0 where
  pub connection : Connection
  -- the pending bytes
  pub bytes : Bytes

-- at the start of a connection with this limit
abbrev pub new_caller : ℕ → Caller
new_caller limit =
    record { connection = record { limit = limit; offset = 0; skipping = 0 }; bytes = [] }

-- bytes that were received follow the pending ones
abbrev pub after_piece : Caller → Bytes → Caller
after_piece caller piece =
    record { connection = caller.connection; bytes = caller.bytes ++ piece }

-- a call with this area
abbrev pub caller_call : Caller → Bytes → NextCall
caller_call caller area = call_with caller.connection caller.bytes area

-- the bytes that a call used up are dropped
abbrev pub after_call : Caller → Left → Caller
after_call caller left =
    record { connection = left.connection; bytes = drop left.line.used caller.bytes }

-- what a caller does: it receives bytes, or it makes a call with this area, which leaves this
pub data CallerStep : Type 0 where
  Received : Bytes → CallerStep
  Called : Bytes → Left → CallerStep

-- These steps, in any order, lead from the one to the other; each call leaves what it may leave.
abbrev pub AreCallerSteps : Caller → List CallerStep → Caller → Type 0
AreCallerSteps before [] after = after ≡ before
AreCallerSteps before (Received piece ∷ steps) after =
    AreCallerSteps (after_piece before piece) steps after
AreCallerSteps before (Called area left ∷ steps) after = Leaves (caller_call before area) left
    × AreCallerSteps (after_call before left) steps after

-- a call with this result has no room or no memory: it uses nothing up, and may be made again
abbrev pub is_made_again : ℕ → Bool
is_made_again result = result == status_number NoRoom || result == status_number OutOfMemory

-- how many bytes the calls of these steps scan for a line feed, without those that are made again
abbrev pub scanned_by : Caller → List CallerStep → ℕ
scanned_by caller [] = 0
scanned_by caller (Received piece ∷ steps) = scanned_by (after_piece caller piece) steps
scanned_by caller (Called area left ∷ steps) =
    (if is_made_again left.result then 0 else scans (caller_call caller area))
    + scanned_by (after_call caller left) steps

-- how many of the pending bytes were not scanned yet
abbrev pub unscanned : Caller → ℕ
unscanned caller = length caller.bytes - caller.connection.offset

-- all bytes that were received
abbrev pub input_of : List CallerStep → Bytes
input_of [] = []
input_of (Received piece ∷ steps) = piece ++ input_of steps
input_of (Called area left ∷ steps) = input_of steps

-- a call with this result gives no line: it asks for more, or is made again
abbrev pub gives_none : ℕ → Bool
gives_none result = result == status_number More || is_made_again result

-- what a call with these pending bytes gives: its result, its name, and its value
abbrev pub given_by : Bytes → Left → List Given
given_by bytes left = if gives_none left.result
    then []
    else record { number = left.result; name = name_in left; value = value_in bytes left } ∷ []

abbrev pub all_given : Caller → List CallerStep → List Given
all_given caller [] = []
all_given caller (Received piece ∷ steps) = all_given (after_piece caller piece) steps
all_given caller (Called area left ∷ steps) =
    given_by caller.bytes left ++ all_given (after_call caller left) steps

-- A line that is refused with a fault of this kind is given this number; with no other kind a line
-- is refused.
abbrev pub IsNumberOf : FaultKind → ℕ → Type 0
IsNumberOf fault.InvalidCommand number = (number ≡ 102) ⊎ (number ≡ 104)
IsNumberOf fault.Utf8Error number = number ≡ 103
IsNumberOf fault.LineTooLong number = number ≡ 105
IsNumberOf _ number = ⊥
