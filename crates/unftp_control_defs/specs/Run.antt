-- What a handler of events answers over a whole input.
use Rattle.std.specs.Prelude.{◌≡◌, ℕ, Bool, false, ◌||◌, if◌then◌else◌, List, [], ◌∷◌, ◌++◌, drop, flat_map, length, Option, None, Some}
use Rattle.std.specs.List.{concat}
use Rattle.unftp_control_defs.specs.Bytes.{Bytes}
use Rattle.unftp_control_defs.specs.Lines.{lines_of, incomplete_line}
use Rattle.unftp_control_defs.specs.Events.{Fault, FtpEvent, events}
use Rattle.unftp_control_defs.specs.FtpReply.{FtpReply, encoded}

-- what contracts know of a handler with one reply to an event: what it answers, which state
-- follows, with which faults it may fail, the kind and the source of its error, and in which states
-- it is done
pub record Law (S : Type 0) : Type 1 where
  pub says : S → FtpEvent → FtpReply
  pub next : S → FtpEvent → S
  pub may_fail : S → FtpEvent → Fault → Type 0
  pub done : S → Bool

-- What contracts know of a handler with several replies to an event: the first one and the state
-- after it; the replies that follow in a state, each with the state after it; with which faults it
-- may fail at an event, and at a reply that follows; and in which states it is done.
pub record SessionLaw (S : Type 0) : Type 1 where
  pub says : S → FtpEvent → FtpReply
  pub next : S → FtpEvent → S
  pub more : S → List (FtpReply × S)
  pub may_fail : S → FtpEvent → Fault → Type 0
  pub may_break : S → Fault → Type 0
  pub done : S → Bool

-- A handler with one reply to an event is one with several, where no reply follows the first.
abbrev pub as_session : {S : Type 0} → Law S → SessionLaw S
as_session law = record {
  says = law.says;
  next = law.next;
  more = λ s. [];
  may_fail = law.may_fail;
  may_break = λ s fault. ⊥;
  done = law.done;
}

-- all replies to an event, each with the state after it
abbrev pub turn : {S : Type 0} → SessionLaw S → S → FtpEvent → List (FtpReply × S)
turn law s event = (law.says s event, law.next s event) ∷ law.more (law.next s event)

-- the replies of a turn, and the state after them
abbrev pub turn_replies : {S : Type 0} → List (FtpReply × S) → List FtpReply
turn_replies [] = []
turn_replies (step ∷ steps) = step.0 ∷ turn_replies steps

abbrev pub state_after : {S : Type 0} → S → List (FtpReply × S) → S
state_after s [] = s
state_after s (step ∷ steps) = state_after step.1 steps

abbrev pub after : {S : Type 0} → SessionLaw S → S → FtpEvent → S
after law s event = state_after s (turn law s event)

-- what a call for the next of the replies that follow comes to
abbrev pub Follows : {S : Type 0} → SessionLaw S → S → Option FtpReply → S → Type 0
Follows law s None s' = (law.more s ≡ []) × (s' ≡ s)
Follows law s (Some reply) s' = law.more s ≡ (reply, s') ∷ law.more s'

-- The run over some events: it ends after the first that leaves the handler done, and has no later
-- ones.
abbrev pub run_of : {S : Type 0} → SessionLaw S → S → List FtpEvent → List FtpEvent
run_of law s [] = []
run_of law s (event ∷ events) =
    event ∷ (if law.done (after law s event) then [] else run_of law (after law s event) events)

-- whether the run ends: one of the events leaves the handler done
abbrev pub ends : {S : Type 0} → SessionLaw S → S → List FtpEvent → Bool
ends law s [] = false
ends law s (event ∷ events) = law.done (after law s event) || ends law (after law s event) events

-- what is so of each event and the state before it, whether or not the handler is done
abbrev pub at_each : {S R : Type 0} → (S → FtpEvent → R) → SessionLaw S → S → List FtpEvent → List R
at_each f law s [] = []
at_each f law s (event ∷ events) = f s event ∷ at_each f law (after law s event) events

-- the replies to an event, those to each of some, and all of these
abbrev pub replies_to : {S : Type 0} → SessionLaw S → S → FtpEvent → List FtpReply
replies_to law s event = turn_replies (turn law s event)

abbrev pub replies_by_event : {S : Type 0} → SessionLaw S → S → List FtpEvent → List (List FtpReply)
replies_by_event law s events = at_each (replies_to law) law s events

abbrev pub all_replies : List (List FtpReply) → List FtpReply
all_replies turns = flat_map (λ turn. turn) turns

abbrev pub replies : {S : Type 0} → SessionLaw S → S → List FtpEvent → List FtpReply
replies law s events = all_replies (replies_by_event law s events)

-- the state after the events
abbrev pub last_state : {S : Type 0} → SessionLaw S → S → List FtpEvent → S
last_state law s [] = s
last_state law s (event ∷ events) = last_state law (after law s event) events

-- what is written for the events: the replies' bytes, joined in order
abbrev pub text_of : {S : Type 0} → SessionLaw S → S → List FtpEvent → Bytes
text_of law s events = flat_map encoded (replies law s events)

-- The same over an input, under a limit on the length of a line, if there is one: the run over its
-- events, whether the handler ends it, and what is written
abbrev pub run_for : {S : Type 0} → Option ℕ → SessionLaw S → S → Bytes → List FtpEvent
run_for limit law s input = run_of law s (events limit input)

abbrev pub ends_for : {S : Type 0} → Option ℕ → SessionLaw S → S → Bytes → Bool
ends_for limit law s input = ends law s (events limit input)

abbrev pub text_for : {S : Type 0} → Option ℕ → SessionLaw S → S → Bytes → Bytes
text_for limit law s input = text_of law s (run_for limit law s input)

-- the bytes after so many lines
abbrev pub after_lines : ℕ → Bytes → Bytes
after_lines n input = concat (drop n (lines_of input)) ++ incomplete_line input

-- the bytes after the last line of the run: where it doesn't end, those of the incomplete line
abbrev pub unread : {S : Type 0} → Option ℕ → SessionLaw S → S → Bytes → Bytes
unread limit law s input = after_lines (length (run_for limit law s input)) input

-- the bytes after the line that ended the run: where it doesn't end, none
abbrev pub after_end : {S : Type 0} → Option ℕ → SessionLaw S → S → Bytes → Bytes
after_end limit law s input =
    if ends_for limit law s input then unread limit law s input else []
