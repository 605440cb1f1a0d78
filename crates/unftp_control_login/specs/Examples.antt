-- What the examples speak of.
use Rattle.std.specs.Prelude.{◌≡◌, ℕ, ◌+◌, ◌==◌, Bool, ◌&&◌, ◌||◌, if◌then◌else◌, true, false, List, [], ◌∷◌, bytes_eq, codes}
use Rattle.unftp_control_defs.specs.Bytes.{Bytes}
use Rattle.unftp_control_defs.specs.FtpCommand.{User, Pass}
use Rattle.unftp_control_defs.specs.Events.{FtpEvent, Command, out_of_memory}
use Rattle.unftp_control_defs.specs.FtpReply.{FtpReply, Nothing, CodeAndMsg}
use Rattle.unftp_control_defs.specs.Run.{SessionLaw, as_session}
use Rattle.unftp_control_login.specs.declared.stage.Progress.{Progress}
use Rattle.unftp_control_login.specs.declared.stage.Stage.{Stage}
use Rattle.unftp_control_login.specs.Login.{Accounts}
use Rattle.unftp_control_login.specs.HandlerCalls.{HandlerCall, CallState}
use Rattle.unftp_control_login.specs.Gate.{Gated}
use Rattle.unftp_control_login.specs.Asked.{AskedGate}
use Rattle.unftp_control_login.specs.declared.inner.Inner.{Inner}

abbrev pub anna : Bytes
anna = codes "anna"

abbrev pub secret : Bytes
secret = codes "secret"

abbrev pub wrong : Bytes
wrong = codes "wrong"

-- one account
abbrev pub only_anna : Accounts
only_anna name password = bytes_eq name anna && bytes_eq password secret

abbrev pub ben : Bytes
ben = codes "ben"

-- and a second one
abbrev pub anna_and_ben : Accounts
anna_and_ben name password =
    only_anna name password || (bytes_eq name ben && bytes_eq password wrong)

abbrev pub user : Bytes → FtpEvent
user name = Command (User name)

abbrev pub pass : Bytes → FtpEvent
pass password = Command (Pass password)

abbrev pub login : List FtpEvent
login = user anna ∷ pass secret ∷ []

-- a login that is so far, with this name
abbrev pub stage : Progress → Bytes → Stage
stage progress name = record { progress = progress; name = name }

abbrev pub here : FtpReply
here = CodeAndMsg 257 (codes "here")

-- calls that were made, how often memory was refused, and how often the handler failed
abbrev pub so_far : List HandlerCall → ℕ → ℕ → CallState
so_far calls refused failed = record { calls = calls; refused = refused; failed = failed }

-- the same of a handler of which only its failures are kept
abbrev pub inner_with : List HandlerCall → ℕ → ℕ → Inner ℕ
inner_with calls refused failed = record { handler = failed; calls = calls; refused = refused }

-- a gate whose accounts were asked this
abbrev pub gate_asked : {S : Type 0} → List HandlerCall → Gated S → AskedGate S
gate_asked asked gate = record { gate = gate; asked = asked }

-- counts the events that it receives, and is done after nine
abbrev pub counting : SessionLaw ℕ
counting = as_session (record {
  says = λ _ _. here;
  next = λ s _. s + 1;
  may_fail = λ _ _ fault. fault ≡ out_of_memory;
  done = λ s. s == 9;
})

-- answers nothing
abbrev pub silent : SessionLaw ℕ
silent = as_session (record {
  says = λ _ _. Nothing;
  next = λ s _. s;
  may_fail = λ _ _ fault. fault ≡ out_of_memory;
  done = λ s. s == 9;
})

-- answers one event, and is then done: it would answer no later one
abbrev pub answers_once : SessionLaw Bool
answers_once = as_session (record {
  says = λ is_over _. if is_over then Nothing else here;
  next = λ _ _. true;
  may_fail = λ _ _ fault. fault ≡ out_of_memory;
  done = λ is_over. is_over;
})

abbrev pub opened : FtpReply
opened = CodeAndMsg 150 (codes "opened")

-- these replies are still to be given, each with those after it
abbrev pub in_turn : List FtpReply → List (FtpReply × List FtpReply)
in_turn [] = []
in_turn (reply ∷ replies) = (reply, replies) ∷ in_turn replies

-- gives 150 to each event, and then these replies
abbrev pub opens_and_then : List FtpReply → SessionLaw (List FtpReply)
opens_and_then later = record {
  says = λ _ _. opened;
  next = λ _ _. later;
  more = in_turn;
  may_fail = λ _ _ fault. fault ≡ out_of_memory;
  may_break = λ _ fault. fault ≡ out_of_memory;
  done = λ _. false;
}

-- one final reply
abbrev pub transferring : SessionLaw (List FtpReply)
transferring = opens_and_then (here ∷ [])
