-- What a call leaves, by its result.
use Rattle.std.proofs.Common.{◌≡◌, ◌≢◌, ℕ, ◌*◌, ◌<◌, ◌≤◌, Bool, true, false, [], ◌∷◌, ◌++◌, length, take, drop, Ok, Err, refl, ap, subst, inl, inr, arith, length-append}
use Rattle.std.specs.Prelude.{nat_le}
use Rattle.std.proofs.lemmas.Bool.{cond_both}
use Rattle.std.proofs.lemmas.Bool.Decides.{nat_tests}
use Rattle.std.proofs.lemmas.List.{length-take-le}
use Rattle.unftp_control_defs.specs.Bytes.{Bytes}
use Rattle.unftp_control_defs.specs.Events.{FtpEvent, Refused, event_of, line_too_long}
use Rattle.unftp_control_defs.specs.FtpCommand.{Outcome, FtpCommand, User, InvalidCommand, InvalidUtf8, InvalidEol}
use Rattle.unftp_control_defs.specs.Said.{command_number}
use Rattle.unftp_control_defs.specs.Outcome.{outcome}
use Rattle.unftp_control_defs.specs.TakingSteps.{TakesEvent}
use Rattle.unftp_control_codecs.specs.Codec.{Codec, is_too_long}
use Rattle.unftp_control_codecs.specs.declared.FirstLine.{FirstLine}
use Rattle.unftp_control_codecs.specs.declared.FirstLine.TheVariants.{Incomplete, TooLong, Complete}
use Rattle.unftp_control_codecs.proofs.FirstLineLemmas.{CountsLine, Finds}
use Rattle.unftp_control_c.specs.declared.next.Connection.{Connection}
use Rattle.unftp_control_c.specs.declared.status.Status.TheVariants.{More, NoRoom, OutOfMemory, InvalidArgument}
use Rattle.unftp_control_c.specs.Next.{AreTexts, NextCall, HasTexts, Left, Leaves, by_first_line, codec_of, first_of, given_for, given_left, gives, is_valid, kept, line_limit, next_codec, next_of, resumed, used_up, without_room, written_for}
use Rattle.unftp_control_c.specs.Numbers.{status_number}
use Rattle.unftp_control_c.specs.Taking.{Caller, after_piece, given_by, gives_none, is_made_again}
use Rattle.unftp_control_c.proofs.PlaceLemmas.{given_found}
use Rattle.unftp_control_c.proofs.NextLemmas.{counts_of}
use Rattle.unftp_control_c.proofs.RoomLemmas.{lengths, outcome_room}
use Rattle.unftp_control_c.proofs.TextLemmas.{GivesTexts, outcome_texts}

-- what is given of an event is UTF-8, where it is a command
abbrev pub GivesTextsOf : FtpEvent → Type 0
GivesTextsOf event = let given = given_for event in
    given.number < 101 → AreTexts given.number given.name given.value

event_texts : (answer : Outcome) → GivesTexts answer → GivesTextsOf (event_of answer)
event_texts (Ok command) texts = λ few. texts
event_texts (Err InvalidCommand) texts = λ few. absurd (omega (arith, few))
event_texts (Err InvalidUtf8) texts = λ few. absurd (omega (arith, few))
event_texts (Err InvalidEol) texts = λ few. absurd (omega (arith, few))

-- the first line of a call, and its event
pub record FirstEvent (call : NextCall) : Type 0 where
  pub line : Bytes
  pub event : FtpEvent
  pub front : take (length line) call.bytes ≡ line
  pub ends : CountsLine (codec_of call.connection) call.bytes (next_codec call) (length line)
  pub leaves : (area : Bytes) → next_of (record call { area = area })
      ≡ gives (record call { area = area }) line (given_for event)
  pub some : gives_none (given_for event).number ≡ false
  pub texts : GivesTextsOf event
  pub small : lengths event ≤ 3 * length line
  pub limited : 1 ≤ call.connection.limit → lengths event ≤ 3 * call.connection.limit
  pub takes : (dropped : Bytes)
      → Finds (codec_of call.connection) dropped call.bytes (next_codec call) (first_of call)
      → TakesEvent (line_limit call.connection.limit) (dropped ++ call.bytes) event
      (drop (length line) call.bytes)

abbrev pub has_room : (call : NextCall) → FirstEvent call → Bool
has_room call first =
    nat_le (length (written_for first.line (given_for first.event))) (length call.area)

-- what a call leaves: it is no call; or no line is complete; or there is one, and room for it, or
-- none; or memory ran out
pub data NextLeft (call : NextCall) : Left → Type 0 where
  invalid : is_valid call.connection (length call.bytes) ≡ false
      → NextLeft call (kept call InvalidArgument)
  asks : (n : ℕ) → is_valid call.connection (length call.bytes) ≡ true
      → first_of call ≡ Incomplete n
      → NextLeft call (used_up call More n (resumed call.connection (next_codec call)))
  gave : (first : FirstEvent call) → has_room call first ≡ true
      → NextLeft call (given_left call first.line (given_for first.event))
  no_room : (first : FirstEvent call) → has_room call first ≡ false
      → NextLeft call (without_room call first.line (given_for first.event))
  no_memory : NextLeft call (kept call OutOfMemory)

-- a line that is not too long, where there is a limit
pub within_limit : (connection : Connection) (n : ℕ) → 1 ≤ connection.limit
    → is_too_long (codec_of connection) n ≡ false → n ≤ connection.limit
within_limit connection n some short = grind (arith, nat_tests, some, short)

-- what is given of a line: neither that more is needed, nor that a call is to be made again
command_gives : (command : FtpCommand) → gives_none (command_number command) ≡ false
command_gives (User name) = refl
command_gives _ = refl

answer_gives : (answer : Outcome) → gives_none (given_for (event_of answer)).number ≡ false
answer_gives (Ok command) = command_gives command
answer_gives (Err InvalidCommand) = refl
answer_gives (Err InvalidUtf8) = refl
answer_gives (Err InvalidEol) = refl

module _ (call : NextCall) where
  left_first : (first : FirstEvent call)
      → NextLeft call (gives call first.line (given_for first.event))
  left_first first = cond_both (has_room call first)
      (given_left call first.line (given_for first.event))
      (without_room call first.line (given_for first.event)) (NextLeft call) (gave first)
      (no_room first)

  left_found : is_valid call.connection (length call.bytes) ≡ true → (found : FirstLine)
      → first_of call ≡ found → NextLeft call (by_first_line call found)
  left_found ok (Incomplete n) e = asks n ok e
  left_found ok (TooLong n) e =
      let line = take n call.bytes in
      let counts = counts_of call ok (TooLong n) e in
      let whole : length line ≡ n = length-take-le n call.bytes counts.0.within in
      left_first (record {
        line = line;
        event = Refused line_too_long;
        front = ap (λ n. take n call.bytes) whole;
        ends = rw whole counts.0;
        leaves = λ area. rw (ok, e) refl;
        some = refl;
        texts = λ few. absurd (omega (arith, few));
        small = omega arith;
        limited = λ some. omega arith;
        takes = λ dropped finds. rw whole (rw e at finds);
      })
  left_found ok (Complete n) e =
      let line = take n call.bytes in
      let counts = counts_of call ok (Complete n) e in
      let whole : length line ≡ n = length-take-le n call.bytes counts.0.within in
      let small = outcome_room line in
      left_first (record {
        line = line;
        event = event_of (outcome line);
        front = ap (λ n. take n call.bytes) whole;
        ends = rw whole counts.0;
        leaves = λ area. rw (ok, e) refl;
        some = answer_gives (outcome line);
        texts = event_texts (outcome line) (outcome_texts line);
        small = small;
        limited = λ some.
            omega (arith, small, whole, within_limit call.connection n some counts.1);
        takes = λ dropped finds. rw whole (rw e at finds).takes;
      })

  pub left_so : (left : Left) → Leaves call left → NextLeft call left
  left_so left (inl next) =
      rw next (cond_both (is_valid call.connection (length call.bytes))
      (by_first_line call (first_of call)) (kept call InvalidArgument) (NextLeft call)
      (λ ok. left_found ok (first_of call) refl) invalid)
  left_so left (inr ran_out) = rw ran_out.1 no_memory

-- it is read where it is
pub given_is : {call : NextCall} (first : FirstEvent call)
    → given_by call.bytes (given_left call first.line (given_for first.event))
    ≡ given_for first.event ∷ []
given_is {call} first =
    let found = given_found call first.line first.front (given_for first.event) in
    rw (first.some, found.0, found.1) refl

-- and is UTF-8
pub texts_left : {call : NextCall} (left : Left) → NextLeft call left → HasTexts call.bytes left
texts_left {call} _ (gave first room) few =
    let found = given_found call first.line first.front (given_for first.event) in
    rw (found.0, found.1) (first.texts few)
texts_left _ (invalid not_valid) few = absurd (omega (arith, few))
texts_left _ (asks n ok found) few = absurd (omega (arith, few))
texts_left _ (no_room first small) few = absurd (omega (arith, few))
texts_left _ no_memory few = absurd (omega (arith, few))

pub gives_some : (result : ℕ) → gives_none result ≡ false → (result ≢ status_number More)
    × (result ≢ status_number NoRoom) × (result ≢ status_number OutOfMemory)
gives_some result h = (
  λ e. let found = subst (λ n. gives_none n ≡ false) e h in cc,
  λ e. let found = subst (λ n. gives_none n ≡ false) e h in cc,
  λ e. let found = subst (λ n. gives_none n ≡ false) e h in cc,
)

-- the next call is valid, and its codec goes on where this one is
module _ (connection : Connection) (codec : Codec) where
  pub valid_resumed : (n : ℕ) → codec.place ≤ n → (codec.skipping ≡ true → codec.place ≡ 0)
      → is_valid (resumed connection codec) n ≡ true
  valid_resumed n within at_start = grind (arith, nat_tests, within, at_start)

  pub skipping_resumed : (codec_of (resumed connection codec)).skipping ≡ codec.skipping
  skipping_resumed = grind arith

-- a call that gives a line is not made again
pub once_given : (result : ℕ) → gives_none result ≡ false → is_made_again result ≡ false
once_given result h = grind (arith, h)

-- the next call is valid, also with more bytes
abbrev pub Valid : Caller → Type 0
Valid caller = is_valid caller.connection (length caller.bytes) ≡ true

pub valid_with_piece : (caller : Caller) (piece : Bytes) → Valid caller
    → Valid (after_piece caller piece)
valid_with_piece caller piece ok =
    grind (arith, nat_tests, ok, length-append caller.bytes piece)
