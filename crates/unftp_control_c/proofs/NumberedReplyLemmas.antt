-- Each event has a reply by its number, and it is the usual one.
use Rattle.std.proofs.Common.{◌≡◌, ◌≢◌, ℕ, ◌≤◌, ◌==◌, if◌then◌else◌, Bool, true, false, [], length, Option, Some, None, Err, refl, ap, subst, ◌∙◌, arith}
use Rattle.std.specs.Fmt.{digits}
use Rattle.std.specs.Prelude.{nat_le}
use Rattle.std.proofs.lemmas.Bool.{and_parts, cond_both, eqb-true, leb-true}
use Rattle.unftp_control_defs.specs.Bytes.{Bytes}
use Rattle.unftp_control_defs.specs.Events.{FaultKind, FaultSource, FtpEvent, Command, LineTooLong, OutOfMemory, Parse, Refused}
use Rattle.unftp_control_defs.specs.FtpCommand.{FtpCommand, User, InvalidCommand, InvalidEol, InvalidUtf8}
use Rattle.unftp_control_defs.specs.FtpReply.{FtpReply, IsReadable, encoded}
use Rattle.unftp_control_defs.specs.Said.{command_number}
use Rattle.unftp_control_commands.specs.UsualReplies.{fault_reply, long_line, no_memory, refusal_reply, reply_by_number, source_reply, usual_reply}
use Rattle.unftp_control_commands.proofs.UsualReplyLemmas.{command_reply-number, readable, reply_by_number-readable, reply_by_number-short}
use Rattle.unftp_control_login.specs.Gate.{LogsIn, Refuses, decision_at, logged_in, login_needed, name_needed, not_accepted, password_in, password_needed}
use Rattle.unftp_control_login.specs.Login.{Accounts}
use Rattle.unftp_control_login.specs.declared.stage.LoginStep.{LoginStep}
use Rattle.unftp_control_login.specs.declared.stage.LoginStep.TheVariants.{AskAccounts, NeedLogin, NeedName, NeedPassword, PassOn}
use Rattle.unftp_control_c.specs.Areas.{written}
use Rattle.unftp_control_c.specs.Logins.{step_number}
use Rattle.unftp_control_c.specs.Next.{given_for}
use Rattle.unftp_control_c.specs.NumberedReplies.{encoded_or_invalid, event_reply, is_command_number, own_reply, refusal_by_number, step_of, step_reply, usual_bytes}
use Rattle.unftp_control_c.specs.Numbers.{source_status, status_number, status_of_kind}
use Rattle.unftp_control_c.specs.declared.status.Status.{Status}
use Rattle.unftp_control_c.specs.declared.status.Status.TheVariants.{InvalidArgument}
use Rattle.unftp_control_c.proofs.AreaLemmas.{filled_length}

is_command : (command : FtpCommand) → is_command_number (command_number command) ≡ true
is_command (User name) = refl
is_command _ = refl

command_given : (command : FtpCommand) (value : Bytes)
    → event_reply (command_number command) value
    ≡ Some (reply_by_number (command_number command) value)
command_given command value = rw (is_command command) refl

-- the number of a fault says its reply
source_given : (source : FaultSource) (value : Bytes)
    → event_reply (status_number (source_status source)) value ≡ Some (source_reply source)
source_given (Parse (Some InvalidCommand)) value = refl
source_given (Parse (Some InvalidUtf8)) value = refl
source_given (Parse (Some InvalidEol)) value = refl
source_given (Parse None) value = refl
source_given _ value = refl

fault_given : (kind : FaultKind) (source : FaultSource) (value : Bytes)
    → event_reply (status_number (status_of_kind kind (source_status source))) value
    ≡ Some (fault_reply kind source)
fault_given OutOfMemory _ value = refl
fault_given LineTooLong _ value = refl
fault_given _ source value = source_given source value

pub event_given : (event : FtpEvent)
    → event_reply (given_for event).number (given_for event).value ≡ Some (usual_reply event)
event_given (Command command) =
    command_given command (given_for (Command command)).value
    ∙ ap Some (command_reply-number command)
event_given (Refused fault) = fault_given fault.kind fault.source []

-- whatever value is there beside the number
some_given : (event : FtpEvent) (value : Bytes)
    → (reply : FtpReply) × (event_reply (given_for event).number value ≡ Some reply)
some_given (Command command) value =
    (reply_by_number (command_number command) value, command_given command value)
some_given (Refused fault) value =
    (fault_reply fault.kind fault.source, fault_given fault.kind fault.source value)

invalid_only : (reply : Option FtpReply) (status : Status)
    → encoded_or_invalid reply ≡ Err status → (status ≡ InvalidArgument) × (reply ≡ None)
invalid_only None status e = (cc, refl)
invalid_only (Some reply) status e = absurd (cc)

some_or_none : (reply : FtpReply) (found : Option FtpReply) → found ≡ Some reply → found ≡ None → ⊥
some_or_none reply found some none = cc

pub no_event : (number : ℕ) (value : Bytes) (status : Status)
    → usual_bytes number value ≡ Err status → (status ≡ InvalidArgument)
    × ((event : FtpEvent) → (given_for event).number ≢ number)
no_event number value status e =
    let invalid = invalid_only (event_reply number value) status e in (
      invalid.0,
      λ event same.
          let some = some_given event value in
          some_or_none some.0 (event_reply number value)
          (subst (λ n. event_reply n value ≡ Some some.0) same some.1) invalid.1,
    )

-- neither a command's number nor that of a refused line
pub no_number : (n : ℕ) (value : Bytes) → ¬ ((1 ≤ n) × (n ≤ 44)) → ¬ ((102 ≤ n) × (n ≤ 106))
    → usual_bytes n value ≡ Err InvalidArgument
no_number n value no_command no_refusal =
    let P : Option FtpReply → Type 0 = λ reply. encoded_or_invalid reply ≡ Err InvalidArgument in
    let other : (m : ℕ) → 102 ≤ m → m ≤ 106 → (n == m) ≡ true → ⊥ =
    λ m least most e.
    no_refusal (omega (arith, eqb-true n m e, least), omega (arith, eqb-true n m e, most)) in
    cond_both (is_command_number n) (Some (reply_by_number n value)) (refusal_by_number n) P
    (λ e. absurd (no_command (
      leb-true 1 n (and_parts (nat_le 1 n) (nat_le n 44) e).0,
      leb-true n 44 (and_parts (nat_le 1 n) (nat_le n 44) e).1,
    )))
    (λ _. cond_both (n == 102) _ _ P (λ e. absurd (other 102 (omega arith) (omega arith) e))
    (λ _. cond_both (n == 103) _ _ P (λ e. absurd (other 103 (omega arith) (omega arith) e))
    (λ _. cond_both (n == 104) _ _ P (λ e. absurd (other 104 (omega arith) (omega arith) e))
    (λ _. cond_both (n == 105) _ _ P (λ e. absurd (other 105 (omega arith) (omega arith) e))
    (λ _. cond_both (n == 106) _ _ P (λ e. absurd (other 106 (omega arith) (omega arith) e))
    (λ _. refl))))))

-- ---- what a client reads

pub source_readable : (source : FaultSource) → IsReadable (source_reply source)
source_readable (Parse (Some InvalidCommand)) = readable (refusal_reply InvalidCommand) refl
source_readable (Parse (Some InvalidUtf8)) = readable (refusal_reply InvalidUtf8) refl
source_readable (Parse (Some InvalidEol)) = readable (refusal_reply InvalidEol) refl
source_readable (Parse None) = readable no_memory refl
source_readable _ = readable (refusal_reply InvalidCommand) refl

fault_readable : (kind : FaultKind) (source : FaultSource) → IsReadable (fault_reply kind source)
fault_readable OutOfMemory _ = readable no_memory refl
fault_readable LineTooLong _ = readable long_line refl
fault_readable _ source = source_readable source

pub event_readable : (event : FtpEvent) → IsReadable (usual_reply event)
event_readable (Command command) =
    subst IsReadable (command_reply-number command)
    (reply_by_number-readable (command_number command) (given_for (Command command)).value)
event_readable (Refused fault) = fault_readable fault.kind fault.source

-- ---- how much room there has to be

abbrev IsShort : Option FtpReply → Type 0
IsShort reply = (out : Bytes) → (written (encoded_or_invalid reply) out).text_length ≤ 64

none_short : IsShort None
none_short out = omega arith

some_short : (reply : FtpReply) → length (encoded reply) ≤ 64 → IsShort (Some reply)
some_short reply short out = omega (arith, filled_length (encoded reply) out, short)

refusal_short : (n : ℕ) → IsShort (refusal_by_number n)
unfolding digits
refusal_short n =
    cond_both (n == 102) _ _ IsShort
    (λ _. some_short (refusal_reply InvalidCommand) (omega arith))
    (λ _. cond_both (n == 103) _ _ IsShort
    (λ _. some_short (refusal_reply InvalidUtf8) (omega arith))
    (λ _. cond_both (n == 104) _ _ IsShort
    (λ _. some_short (refusal_reply InvalidEol) (omega arith))
    (λ _. cond_both (n == 105) _ _ IsShort (λ _. some_short long_line (omega arith))
    (λ _. cond_both (n == 106) _ _ IsShort (λ _. some_short no_memory (omega arith))
    (λ _. none_short)))))

pub usual_short : (n : ℕ) (value : Bytes) → IsShort (event_reply n value)
usual_short n value =
    cond_both (is_command_number n) (Some (reply_by_number n value)) (refusal_by_number n) IsShort
    (λ _. some_short (reply_by_number n value) (reply_by_number-short n value))
    (λ _. refusal_short n)

-- ---- a login

by_accounts : (accepted : Bool) (name : Bytes) → Some (if accepted then logged_in else not_accepted)
    ≡ own_reply (if accepted then LogsIn name else Refuses not_accepted)
by_accounts true name = refl
by_accounts false name = refl

pub step_decided : (step : LoginStep) (accepts : Accounts) (name : Bytes) (event : FtpEvent)
    → step_reply step (accepts name (password_in event))
    ≡ own_reply (decision_at step accepts name event)
step_decided PassOn accepts name event = refl
step_decided NeedPassword accepts name event = refl
step_decided AskAccounts accepts name event =
    by_accounts (accepts name (password_in event)) name
step_decided NeedName accepts name event = refl
step_decided NeedLogin accepts name event = refl

pub step_back : (step : LoginStep) → step_of (step_number step) ≡ step
step_back PassOn = refl
step_back NeedPassword = refl
step_back AskAccounts = refl
step_back NeedName = refl
step_back NeedLogin = refl

pub step_short : (step : LoginStep) (accepted : Bool) → IsShort (step_reply step accepted)
unfolding digits
step_short PassOn accepted = none_short
step_short NeedPassword accepted = some_short password_needed (omega arith)
step_short AskAccounts true = some_short logged_in (omega arith)
step_short AskAccounts false = some_short not_accepted (omega arith)
step_short NeedName accepted = some_short name_needed (omega arith)
step_short NeedLogin accepted = some_short login_needed (omega arith)
