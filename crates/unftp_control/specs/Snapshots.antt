-- A handler and snapshots for the examples.
use Rattle.std.specs.Prelude.{◌≡◌, ℕ, ◌+◌, ◌==◌, ◌||◌, Bool, false, if◌then◌else◌, [], ◌∷◌, Option, None, Some, codes}
use Rattle.unftp_control_defs.specs.Bytes.{Bytes}
use Rattle.unftp_control_defs.specs.Events.{FtpEvent, Command, Refused, is_quit, out_of_memory}
use Rattle.unftp_control_defs.specs.FtpCommand.{Noop}
use Rattle.unftp_control_defs.specs.FtpReply.{FtpReply, CodeAndMsg, Nothing}
use Rattle.unftp_control_defs.specs.Run.{SessionLaw, as_session}
use Rattle.unftp_control_serve.specs.Endings.{Snapshot}
use Rattle.unftp_control_serve.specs.Engine.{EngineState}

-- It counts the events, and its reply to each is `200 OK`. It may fail with `OutOfMemory` only.
abbrev pub counter : SessionLaw ℕ
counter = as_session (record {
  says = λ _ _. CodeAndMsg 200 (codes "OK");
  next = λ taken _. taken + 1;
  may_fail = λ _ _ fault. fault ≡ out_of_memory;
  done = λ _. false;
})

-- As the one before, but done once it has taken five events.
abbrev pub counter_to_five : SessionLaw ℕ
counter_to_five = record counter { done = λ taken. taken == 5 }

-- As the first one, but it sends no reply.
abbrev pub silent : SessionLaw ℕ
silent = record counter { says = λ _ _. Nothing }

-- It answers 150 to each event, and then 226. It may fail with `OutOfMemory` between them.
abbrev pub two_replies : SessionLaw ℕ
two_replies = record {
  says = λ _ _. CodeAndMsg 150 [];
  next = λ _ _. 1;
  more = λ waits. if waits == 1 then (CodeAndMsg 226 [], 0) ∷ [] else [];
  may_fail = λ _ _ _. ⊥;
  may_break = λ _ fault. fault ≡ out_of_memory;
  done = λ _. false;
}

-- It answers 221 to QUIT, after which it is done, 500 to a refused line, and 200 to any other.
abbrev pub farewell_reply : FtpEvent → FtpReply
farewell_reply (Refused fault) = CodeAndMsg 500 []
farewell_reply (Command command) = CodeAndMsg (if is_quit (Command command) then 221 else 200) []

abbrev pub farewell : SessionLaw Bool
farewell = as_session (record {
  says = λ _ event. farewell_reply event;
  next = λ quit event. quit || is_quit event;
  may_fail = λ _ _ _. ⊥;
  done = λ quit. quit;
})

abbrev pub noop : FtpEvent
noop = Command Noop

-- The handler took so many events; these bytes were written, and so many were not flushed; nothing
-- has failed.
abbrev pub snapshot : ℕ → Bytes → ℕ → Snapshot ℕ
snapshot taken written unflushed = record {
  state = taken;
  failures = 0;
  output = record {
    taken = written;
    unflushed = unflushed;
    failures = 0;
    written = Some written;
  };
}

-- an engine that was fed the start of a line
abbrev pub waiting : Option ℕ → EngineState
waiting limit = record {
  incomplete = codes "NO";
  left = 2;
  failed = false;
  finished = false;
  scanned = 2;
  limit = limit;
  buffered = 2;
  held = 2;
}

-- the same with a writer whose contracts know nothing of what is written, such as a socket; all
-- that its writes took is in the record
abbrev pub snapshot_of_any_writer : ℕ → Bytes → ℕ → Snapshot ℕ
snapshot_of_any_writer taken written unflushed = record {
  state = taken;
  failures = 0;
  output = record { taken = written; unflushed = unflushed; failures = 0; written = None };
}
