-- What an event is to a login, what is done with it, and who has logged in, by only the events of
-- the session (RFC 959, section 4.1.1).
use Rattle.std.specs.Prelude.{◌≡◌, ℕ, ◌==◌, ◌||◌, Bool, true, false, if◌then◌else◌, IsTrue, List, ◌∷◌, ◌++◌}
use Rattle.std.specs.List.{AllByRecursion}
use Rattle.unftp_control_defs.specs.Bytes.{Bytes}
use Rattle.unftp_control_defs.specs.FtpCommand.{User, Pass, Auth, number, said}
use Rattle.unftp_control_defs.specs.Events.{FtpEvent, Command, Refused}
use Rattle.unftp_control_defs.specs.declared.verb.Verb.TheVariants as verb
use Rattle.unftp_control_login.specs.declared.stage.LoginStep.{LoginStep}
use Rattle.unftp_control_login.specs.declared.stage.LoginStep.TheVariants.{AskAccounts, NeedLogin, NeedName, NeedPassword, PassOn}
use Rattle.unftp_control_login.specs.declared.stage.Progress.{Progress}
use Rattle.unftp_control_login.specs.declared.stage.Progress.TheVariants.{Asked, LoggedIn, Named, NoName}
use Rattle.unftp_control_login.specs.declared.stage.Role.{Role}
use Rattle.unftp_control_login.specs.declared.stage.Role.TheVariants.{Closed, Flush, Name, Open, Password}

-- whether a password, the second, is that of a name, the first
abbrev pub Accounts : Type 0
Accounts = Bytes → Bytes → Bool

-- What is done without a login, beside USER, PASS and AUTH, by the number of the verb. It is QUIT
-- (RFC 959, section 4.1.1); the security of the connection, which comes before the login (RFC 4217,
-- sections 4 and 9); and FEAT (RFC 2389, section 3). So it is with HELP, which RFC 959 suggests to
-- allow before USER, NOOP and SYST (section 4.1.3).
abbrev pub is_open : ℕ → Bool
is_open n = (n == number verb.Quit) || ((n == number verb.Pbsz) || ((n == number verb.Prot)
    || ((n == number verb.Feat) || ((n == number verb.Help) || ((n == number verb.Noop)
    || (n == number verb.Syst))))))

-- What a command is to a login: USER gives a name, and PASS a password (RFC 959, section 4.1.1);
-- AUTH asks for a new login (RFC 2228, section 3; RFC 4217, section 4). All else needs a login.
abbrev pub role_of : ℕ → Role
role_of n = if n == number verb.User then Name else (if n == number verb.Pass then Password else
    (if n == number verb.Auth then Flush else (if is_open n then Open else Closed)))

-- A line that is no command is refused whoever sends it.
abbrev pub role_in : FtpEvent → Role
role_in (Command command) = role_of (number (said command).verb)
role_in (Refused fault) = Open

abbrev pub is_closed : Role → Bool
is_closed Closed = true
is_closed role = false

abbrev pub needs_login : FtpEvent → Bool
needs_login event = is_closed (role_in event)

-- What is done with an event: a password follows a name, and else a name is asked for.
abbrev pub login_step : Progress → Role → LoginStep
login_step progress Name = NeedPassword
login_step Named Password = AskAccounts
login_step progress Password = NeedName
login_step LoggedIn Closed = PassOn
login_step progress Closed = NeedLogin
login_step progress role = PassOn

-- An answer of the accounts that comes after another event is too late.
abbrev pub not_asked : Progress → Progress
not_asked Asked = NoName
not_asked progress = progress

abbrev pub login_after : Progress → Role → Progress
login_after progress Name = Named
login_after progress Flush = NoName
login_after Named Password = Asked
login_after progress role = not_asked progress

-- the accounts have answered
abbrev pub after_answer : Bool → Progress → Progress
after_answer accepted Asked = if accepted then LoggedIn else NoName
after_answer accepted progress = progress

-- the two halves of a login
abbrev pub is_login : FtpEvent → Bool
is_login (Command (User name)) = true
is_login (Command (Pass password)) = true
is_login event = false

-- What makes a client log in again: a new USER, which begins the login (RFC 959, section 4.1.1),
-- and AUTH, which asks for a new one (RFC 2228, section 3; RFC 4217, section 4).
abbrev pub flushes_login : FtpEvent → Bool
flushes_login (Command (User name)) = true
flushes_login (Command (Auth mechanism)) = true
flushes_login event = false

abbrev pub KeepsLogin : FtpEvent → Type 0
KeepsLogin event = flushes_login event ≡ false

-- a name is good for one password
abbrev pub KeepsName : FtpEvent → Type 0
KeepsName (Command (Pass password)) = ⊥
KeepsName event = KeepsLogin event

-- The client has given this name, and has neither used nor changed it since.
pub record GaveName (name : Bytes) (events : List FtpEvent) : Type 0 where
  pub before : List FtpEvent
  pub since : List FtpEvent
  pub whole : events ≡ before ++ Command (User name) ∷ since
  pub kept : AllByRecursion KeepsName since

-- After this name it has given a password that the accounts accept, and nothing since has flushed
-- the login.
pub record HasLoggedIn (accepts : Accounts) (name : Bytes) (events : List FtpEvent) : Type 0 where
  pub before : List FtpEvent
  pub password : Bytes
  pub since : List FtpEvent
  pub whole : events ≡ before ++ Command (Pass password) ∷ since
  pub named : GaveName name before
  pub accepted : IsTrue (accepts name password)
  pub kept : AllByRecursion KeepsLogin since

-- some name has logged in
abbrev pub IsLoggedIn : Accounts → List FtpEvent → Type 0
IsLoggedIn accepts events = (name : Bytes) × HasLoggedIn accepts name events
