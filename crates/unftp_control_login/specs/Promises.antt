-- What a login gate promises of all inputs.
use Rattle.std.specs.Prelude.{◌≡◌, ℕ, ◌<◌, ⊤, ◌⊎◌, false, IsTrue, length, take, List, [], ◌∷◌, ◌++◌, Option}
use Rattle.std.specs.List.{AllByRecursion}
use Rattle.std.specs.Option.{IfSome}
use Rattle.unftp_control_defs.specs.Bytes.{Bytes, LF, Lacks}
use Rattle.unftp_control_defs.specs.Canonical.{canonical_line}
use Rattle.unftp_control_defs.specs.FtpCommand.{User, Pass}
use Rattle.unftp_control_defs.specs.Events.{FtpEvent, Command, event_for, exceeds, events}
use Rattle.unftp_control_defs.specs.FtpReply.{FtpReply, IsReadable, reply_as_read}
use Rattle.unftp_control_defs.specs.Lines.{incomplete_line, lines_of}
use Rattle.unftp_control_defs.specs.ReplyReader.{AllReplies}
use Rattle.unftp_control_defs.specs.Run.{SessionLaw, after, at_each, ends, last_state, replies_to, run_for, text_for}
use Rattle.unftp_control_defs.specs.Turns.{IsExchange, cut_reads}
use Rattle.unftp_control_serve.specs.Endings.{Snapshot, RunFailed}
use Rattle.unftp_control_serve.specs.declared.error.ServeError.{ServeError}
use Rattle.unftp_control_login.specs.Login.{Accounts, GaveName, IsLoggedIn, needs_login}
use Rattle.unftp_control_login.specs.HandlerCalls.{HandlerCall, calls_in}
use Rattle.unftp_control_login.specs.Gate.{Gated, all_calls_by, closed, decides, gated_law, login_needed}
use Rattle.unftp_control_login.specs.LoginLimit.{is_pass}

-- The event after these has one reply, which is 530, and the handler doesn't receive it.
abbrev pub IsTurnedAway : {S : Type 0} → SessionLaw S → Gated S → List FtpEvent → FtpEvent → Type 0
IsTurnedAway law first before event =
    let s = last_state (gated_law law) first before in
    (replies_to (gated_law law) s event ≡ login_needed ∷ [])
    × ((after (gated_law law) s event).inner ≡ s.inner)

-- The event after these reaches the handler, whose replies are the replies.
abbrev pub ReachesHandler : {S : Type 0} → SessionLaw S → Gated S → List FtpEvent → FtpEvent → Type 0
ReachesHandler law first before event =
    let s = last_state (gated_law law) first before in
    (replies_to (gated_law law) s event ≡ replies_to law s.inner event)
    × ((after (gated_law law) s event).inner ≡ after law s.inner event)

-- After these, this password has the handler receive USER with this name.
abbrev pub LearnsName : {S : Type 0} → SessionLaw S → Gated S → List FtpEvent → Bytes → Bytes → Type 0
LearnsName law first before name password =
    let s = last_state (gated_law law) first before in
    (after (gated_law law) s (Command (Pass password))).inner
    ≡ after law s.inner (Command (User name))

-- 4yz and 5yz report a failure (RFC 959, section 4.2.1).
abbrev pub NoFailure : FtpReply → Type 0
NoFailure reply = IfSome (reply_as_read reply) (λ read. read.0 < 400)

-- Whatever came before: a reply that reports no failure, to an event that needs a login, comes only
-- after a login.
abbrev pub ServesMembersAlone : {S : Type 0} → Accounts → SessionLaw S → S → Type 0
ServesMembersAlone accepts law s = (before : List FtpEvent) (event : FtpEvent)
    → IsTrue (needs_login event)
    → AllByRecursion (λ reply. NoFailure reply → IsLoggedIn accepts before)
    (replies_to law (last_state law s before) event)

-- Preliminary replies and then a final one, each of which a client reads as what it is.
abbrev pub IsPlainExchange : List FtpReply → Type 0
IsPlainExchange replies = IsExchange replies × AllByRecursion IsReadable replies

-- So are the replies to each event of each run that begins in this state: to any that comes before
-- the handler is done.
abbrev pub SendsPlainExchanges : {S : Type 0} → SessionLaw S → S → Type 0
SendsPlainExchanges law first = (before : List FtpEvent) (event : FtpEvent)
    → ends law first before ≡ false
    → IsPlainExchange (replies_to law (last_state law first before) event)

-- The lists are of one length, and this holds at each place: of what the first has before it and at
-- it, and of what the second has at it.
abbrev pub AtEachPlace : {A B : Type 0} → (List A → A → B → Type 0) → List A → List A → List B
    → Type 0
AtEachPlace Holds before [] [] = ⊤
AtEachPlace Holds before (x ∷ xs) (y ∷ ys) =
    Holds before x y × AtEachPlace Holds (before ++ x ∷ []) xs ys
AtEachPlace Holds before _ _ = ⊥

-- A code that reports no failure, in what is read as the replies to an event that needs a login,
-- comes only after a login.
abbrev pub AfterLogin : Accounts → List FtpEvent → FtpEvent → List (ℕ × List Bytes) → Type 0
AfterLogin accepts before event replies = IsTrue (needs_login event)
    → AllByRecursion (λ reply. reply.0 < 400 → IsLoggedIn accepts before) replies

-- The output is a list of replies, and a client reads no other in it. Cut after each final reply,
-- they are in turn those to the input's events, up to the last that is answered, and each of them
-- is as it has to be after a login.
pub record MembersAlone (limit : Option ℕ) (accepts : Accounts) (input output : Bytes)
    : Type 0 where
  pub read : List (ℕ × List Bytes)
  pub replies : AllReplies output read
  pub no_other : (other : List (ℕ × List Bytes)) → AllReplies output other → other ≡ read
  pub alone : AtEachPlace (AfterLogin accepts) []
      (take (length (cut_reads read)) (events limit input)) (cut_reads read)

-- These accounts answer about the first password as those about the other one, for the name that
-- was given by these events.
abbrev pub AnsweredAlike : Accounts → Accounts → List FtpEvent → Bytes → Bytes → Type 0
AnsweredAlike accepts other before password another =
    (name : Bytes) → GaveName name before → accepts name password ≡ other name another

-- The same event after these, but for passwords that are answered alike.
abbrev pub LooksAlike : Accounts → Accounts → List FtpEvent → FtpEvent → FtpEvent → Type 0
LooksAlike accepts other before (Command (Pass password)) (Command (Pass another)) =
    AnsweredAlike accepts other before password another
LooksAlike accepts other before event another = event ≡ another

-- They are as many, and each is like the other one at its place.
abbrev pub AllLookAlike : Accounts → Accounts → List FtpEvent → List FtpEvent → Type 0
AllLookAlike accepts other events others = AtEachPlace (LooksAlike accepts other) [] events others

-- Both answer alike to all that these events may ask: whether a password is that of the name that
-- was given before it.
abbrev pub AgreeOnAll : Accounts → Accounts → List FtpEvent → Type 0
AgreeOnAll accepts other events = AllLookAlike accepts other events events

-- The lines of the inputs are the same, but those that give a password.
abbrev pub GivesPassword : Option ℕ → Bytes → Type 0
GivesPassword limit line = IsTrue (is_pass (event_for limit line))

abbrev pub DifferInPasswords : Option ℕ → Bytes → Bytes → Type 0
DifferInPasswords limit input other = AtEachPlace
    (λ _ line another. (line ≡ another) ⊎ (GivesPassword limit line × GivesPassword limit another))
    [] (lines_of input) (lines_of other)

-- However a session over the first input fails, one over the other may fail too: with the same
-- error, and with the same bytes written.
abbrev pub FailsAlike : {S : Type 0} → Option ℕ → SessionLaw S → S → Bytes → Bytes → Type 0
FailsAlike {S = S} limit law s input other =
    (before after : Snapshot S) (error : ServeError) (done : List FtpEvent) → before.state ≡ s
    → RunFailed limit law before input after error done
    → (others : List FtpEvent) × RunFailed limit law before other after error others

-- what a gate calls at an event, beside the accounts
abbrev pub gate_calls : {S : Type 0} → SessionLaw S → Gated S → FtpEvent → List HandlerCall
gate_calls law s event = calls_in (all_calls_by law s.inner (decides s event))

-- a gate before the first event, of which so many logins may fail, if they are limited
abbrev pub guarded : {S : Type 0} → Option ℕ → Accounts → S → Gated S
guarded failures accepts inner = record (closed accepts inner) { left = failures }

-- what is called in the run over an input, event for event
abbrev pub calls_for : {S : Type 0} → Option ℕ → (S → FtpEvent → List HandlerCall) → SessionLaw S → S
    → Bytes → List (List HandlerCall)
calls_for limit calls law s input = at_each calls law s (run_for limit law s input)

-- the line is within the limit
abbrev pub Fits : Option ℕ → Bytes → Type 0
Fits limit line = exceeds limit (length line) ≡ false

abbrev pub pass_line : Bytes → Bytes
pass_line password = canonical_line (Pass password)

abbrev pub login_lines : Bytes → Bytes → Bytes
login_lines name password = canonical_line (User name) ++ pass_line password

-- a password that a line within the limit can give
abbrev pub PasswordFits : Option ℕ → Bytes → Type 0
PasswordFits limit password = Lacks LF password × Fits limit (pass_line password)

-- A name and a password that lines within the limit can give, and that the accounts refuse.
pub record IsRefusedLogin (limit : Option ℕ) (accepts : Accounts) (name password : Bytes)
    : Type 0 where
  pub name_sent : Lacks LF name × Fits limit (canonical_line (User name))
  pub password_sent : PasswordFits limit password
  pub refused : accepts name password ≡ false

-- What is promised of a handler from some state on.
module _ {S : Type 0} (limit : Option ℕ) (accepts : Accounts) (law : SessionLaw S) (s : S) where
  -- Two inputs whose events look alike have one output,
  abbrev pub PasswordsStayHidden : Type 0
  PasswordsStayHidden = (input other : Bytes)
      → AllLookAlike accepts accepts (events limit input) (events limit other)
      → text_for limit law s input ≡ text_for limit law s other

  -- and make the same calls,
  abbrev pub CallsHidePasswords : (S → FtpEvent → List HandlerCall) → Type 0
  CallsHidePasswords calls = (input other : Bytes)
      → AllLookAlike accepts accepts (events limit input) (events limit other)
      → calls_for limit calls law s input ≡ calls_for limit calls law s other

  -- and where all other lines are the same, their errors too.
  abbrev pub ErrorsHidePasswords : Type 0
  ErrorsHidePasswords = (input other : Bytes)
      → AllLookAlike accepts accepts (events limit input) (events limit other)
      → DifferInPasswords limit input other → FailsAlike limit law s input other

  -- Two passwords that the accounts answer alike for the name that was given have one output.
  abbrev pub RefusedPasswordsLookAlike : Type 0
  RefusedPasswordsLookAlike = (before after password other : Bytes) → incomplete_line before ≡ []
      → PasswordFits limit password → PasswordFits limit other
      → AnsweredAlike accepts accepts (events limit before) password other
      → text_for limit law s (before ++ (pass_line password ++ after))
      ≡ text_for limit law s (before ++ (pass_line other ++ after))

  -- Two refused logins have one output.
  abbrev pub RefusedLoginsLookAlike : Type 0
  RefusedLoginsLookAlike = (before after name password other another : Bytes)
      → incomplete_line before ≡ [] → IsRefusedLogin limit accepts name password
      → IsRefusedLogin limit accepts other another
      → text_for limit law s (before ++ (login_lines name password ++ after))
      ≡ text_for limit law s (before ++ (login_lines other another ++ after))

-- An input about which both accounts answer alike has one output, and makes the same calls: from a
-- state with the first, and from one with the second.
abbrev pub AccountsStayHidden : {S : Type 0} → Option ℕ → Accounts → Accounts
    → (S → FtpEvent → List HandlerCall) → SessionLaw S → S → S → Type 0
AccountsStayHidden limit accepts other calls law s t = (input : Bytes)
    → AgreeOnAll accepts other (events limit input)
    → (text_for limit law s input ≡ text_for limit law t input)
    × (calls_for limit calls law s input ≡ calls_for limit calls law t input)
