-- The whole session: the login gate, with a limit on failed logins, and the tree.
use Rattle.std.specs.Prelude.{ℕ, Some}
use Rattle.unftp_control_defs.specs.Run.{SessionLaw, as_session}
use Rattle.unftp_control_login.specs.Login.{Accounts}
use Rattle.unftp_control_login.specs.Asked.{AskedGate, asked_law}
use Rattle.unftp_control_login.specs.Gate.{Gated}
use Rattle.unftp_control_login.specs.Promises.{guarded}
use Rattle.login_demo.specs.declared.files.Files.{Files}
use Rattle.login_demo.specs.declared.session.Session.{Session}
use Rattle.login_demo.specs.Session.{files_law, new_session}

-- what contracts see of the handler, and how often it has failed
abbrev pub state_of_files : Files → Session
state_of_files files = files.session

abbrev pub failures_of_files : Files → ℕ
failures_of_files files = files.failures

-- the law of the gate with the tree
abbrev pub guarded_law : SessionLaw (AskedGate Session)
guarded_law = asked_law (as_session files_law)

-- before the first event: three logins may fail
abbrev pub first_gate : Accounts → Gated Session
first_gate accepts = guarded (Some 3) accepts new_session
