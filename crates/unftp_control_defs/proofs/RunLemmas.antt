-- Runs over events and inputs that are put together.
use Rattle.std.proofs.Common.{◌≡◌, ◌≤◌, ℕ, zero, suc, Bool, true, false, ◌||◌, ◌+◌, List, [], ◌∷◌, ◌++◌, Option, length, map, flat_map, drop, refl, sym, ap, ◌∙◌, arith, append_assoc, length-append}
use Rattle.std.specs.Prelude.{if◌then◌else◌}
use Rattle.std.specs.List.{concat}
use Rattle.std.proofs.lemmas.List.{append-nil, drop-append-le, drop_all, length-map}
use Rattle.std.proofs.lemmas.List.Folds.{concat-append}
use Rattle.std.proofs.Math.Bool.{or_assoc}
use Rattle.std.proofs.Math.Seq.{drop-append-add}
use Rattle.std.proofs.lemmas.Grind.{flat_map-append}
use Rattle.unftp_control_defs.specs.Bytes.{Bytes, LF, Lacks}
use Rattle.unftp_control_defs.specs.Events.{FtpEvent, event_for, events}
use Rattle.unftp_control_defs.specs.FtpReply.{FtpReply, encoded}
use Rattle.unftp_control_defs.specs.Lines.{IsLine, lines_of, incomplete_line}
use Rattle.unftp_control_defs.specs.Run.{run_for, ends_for, after_lines, unread, after_end, SessionLaw, all_replies, at_each, replies_by_event, replies_to, state_after, after, run_of, ends, replies, last_state, text_of}
use Rattle.unftp_control_defs.specs.Pieces.{replies_in_turn}
use Rattle.unftp_control_defs.proofs.LineLemmas.{Lines-lines_of, lines_of-append, lines_of-incomplete, incomplete_line-append, incomplete_line-incomplete, line_first, events-append, events-incomplete}

pub last_state-append : {S : Type 0} (law : SessionLaw S) (s : S) (events more : List FtpEvent)
    → last_state law s (events ++ more) ≡ last_state law (last_state law s events) more
last_state-append law s [] more = refl
last_state-append law s (event ∷ events) more = last_state-append law (after law s event) events
    more

pub at_each-append : {S R : Type 0} (f : S → FtpEvent → R) (law : SessionLaw S) (s : S)
    (events more : List FtpEvent) → at_each f law s (events ++ more)
    ≡ at_each f law s events ++ at_each f law (last_state law s events) more
at_each-append f law s [] more = refl
at_each-append f law s (event ∷ events) more =
    ap (λ later. f s event ∷ later) (at_each-append f law (after law s event) events more)

pub replies-append : {S : Type 0} (law : SessionLaw S) (s : S) (events more : List FtpEvent) →
    replies law s (events ++ more) ≡ replies law s events ++ replies law (last_state law s events)
    more
replies-append law s events more = ap all_replies
    (at_each-append (replies_to law) law s events more)
    ∙ flat_map-append (λ turn. turn) (replies_by_event law s events) _

pub text_of-append : {S : Type 0} (law : SessionLaw S) (s : S) (events more : List FtpEvent) →
    text_of law s (events ++ more) ≡ text_of law s events ++ text_of law (last_state law s events)
    more
text_of-append law s events more = ap (flat_map encoded) (replies-append law s events more)
    ∙ flat_map-append encoded (replies law s events) _

pub state_after-append : {S : Type 0} (s : S) (a b : List (FtpReply × S))
    → state_after s (a ++ b) ≡ state_after (state_after s a) b
state_after-append s [] b = refl
state_after-append s (step ∷ a) b = state_after-append step.1 a b

-- the lines and the bytes after all lines of the first bytes
pub drop_lines-append : (limit : Option ℕ) (bytes more : Bytes) (later : List FtpEvent)
    → drop (length (events limit bytes ++ later)) (lines_of (bytes ++ more))
    ≡ drop (length later) (lines_of (incomplete_line bytes ++ more))
drop_lines-append limit bytes more later =
    let count : length (events limit bytes ++ later) ≡ length (lines_of bytes) + length later =
    length-append (events limit bytes) later
    ∙ ap (λ n. n + length later) (length-map (lines_of bytes) (event_for limit)) in
    rw (count, lines_of-append bytes more)
    (drop-append-add (lines_of bytes) (lines_of (incomplete_line bytes ++ more)) (length later))

after_lines-append : (limit : Option ℕ) (bytes more : Bytes) (later : List FtpEvent)
    → after_lines (length (events limit bytes ++ later)) (bytes ++ more)
    ≡ after_lines (length later) (incomplete_line bytes ++ more)
after_lines-append limit bytes more later =
    rw (drop_lines-append limit bytes more later, incomplete_line-append bytes more) refl

-- after not more than these
after_lines-more : (n : ℕ) (input more : Bytes) → n ≤ length (lines_of input)
    → after_lines n (input ++ more) ≡ after_lines n input ++ more
after_lines-more n input more few =
    let left : Bytes = concat (drop n (lines_of input)) in
    let next : List Bytes = lines_of (incomplete_line input ++ more) in
    rw (
      lines_of-append input more,
      drop-append-le n (lines_of input) next few,
      concat-append (drop n (lines_of input)) next,
      incomplete_line-append input more,
    )
    (append_assoc left (concat next) (incomplete_line (incomplete_line input ++ more))
    ∙ ap (λ bytes. left ++ bytes) (sym (Lines-lines_of (incomplete_line input ++ more)).whole)
    ∙ sym (append_assoc left (incomplete_line input) more))

module _ {S : Type 0} (law : SessionLaw S) where
  -- one event first, after which the handler is done or goes on
  pub run_of-done : (s : S) (event : FtpEvent) (events : List FtpEvent)
      → law.done (after law s event) ≡ true →
      (run_of law s (event ∷ events) ≡ event ∷ []) × (ends law s (event ∷ events) ≡ true)
  run_of-done s event events done = rw (done) (refl, refl)

  pub run_of-on : (s : S) (event : FtpEvent) (events : List FtpEvent)
      → law.done (after law s event) ≡ false →
      (run_of law s (event ∷ events) ≡ event ∷ run_of law (after law s event) events)
      × (ends law s (event ∷ events) ≡ ends law (after law s event) events)
  run_of-on s event events on = rw (on) (refl, refl)

  -- a run that doesn't end takes all events, and goes on over more of them
  pub on-first : (done later : Bool) → (done || later) ≡ false → (done ≡ false) × (later ≡ false)
  on-first true later h = absurd (cc)
  on-first false later h = (refl, h)

  pub run_of-all : (s : S) (events : List FtpEvent) → ends law s events ≡ false
      → run_of law s events ≡ events
  run_of-all s [] h = refl
  run_of-all s (event ∷ events) h =
      let on = on-first (law.done (after law s event)) (ends law (after law s event) events) h in
      (run_of-on s event events on.0).0
      ∙ ap (λ later. event ∷ later) (run_of-all (after law s event) events on.1)

  -- more events come into the run where it goes on
  pub run_of-append : (s : S) (events more : List FtpEvent) → run_of law s (events ++ more)
      ≡ run_of law s events
      ++ (if ends law s events then [] else run_of law (last_state law s events) more)
  run_of-append s [] more = refl
  run_of-append s (event ∷ events) more = ap (λ later. event ∷ later)
      (by_done (law.done (after law s event)) (ends law (after law s event) events) _ _ _
      (run_of-append (after law s event) events more))
    where
      by_done : (done ended : Bool) (all run later : List FtpEvent)
          → all ≡ run ++ (if ended then [] else later) → (if done then [] else all)
          ≡ (if done then [] else run) ++ (if (done || ended) then [] else later)
      by_done true ended all run later same = refl
      by_done false ended all run later same = same

  pub ends-append : (s : S) (events more : List FtpEvent) → ends law s (events ++ more)
      ≡ (ends law s events || ends law (last_state law s events) more)
  ends-append s [] more = refl
  ends-append s (event ∷ events) more =
      ap (λ later. law.done (after law s event) || later)
      (ends-append (after law s event) events more) ∙ sym (or_assoc (law.done (after law s event))
      (ends law (after law s event) events) _)

  -- a run has the first of the events
  pub run_of-first : (s : S) (events : List FtpEvent)
      → (later : List FtpEvent) × (events ≡ run_of law s events ++ later)
  run_of-first s [] = ([], refl)
  run_of-first s (event ∷ events) = by_done (law.done (after law s event)) _
      (run_of-first (after law s event) events)
    where
      by_done : (done : Bool) (run : List FtpEvent)
          → (later : List FtpEvent) × (events ≡ run ++ later) → (later : List FtpEvent)
          × (event ∷ events ≡ event ∷ (if done then [] else run) ++ later)
      by_done true run first = (events, refl)
      by_done false run first = (first.0, ap (λ later. event ∷ later) first.1)

  -- a handler that is never done takes all events
  pub never_ends : ((s : S) → law.done s ≡ false) → (s : S) (events : List FtpEvent)
      → ends law s events ≡ false
  never_ends never s [] = refl
  never_ends never s (event ∷ events) = (run_of-on s event events (never (after law s event))).1
      ∙ never_ends never (after law s event) events

  -- Inputs, with a limit or without one.
  module _ (limit : Option ℕ) where
    -- One line first, whose event leaves the handler done.
    pub line-done : (s : S) (line more : Bytes) → IsLine line
        → law.done (after law s (event_for limit line)) ≡ true
        → (run_for limit law s (line ++ more) ≡ event_for limit line ∷ [])
        × (ends_for limit law s (line ++ more) ≡ true)
        × (unread limit law s (line ++ more) ≡ more)
    line-done s line more is_line done =
        let lines = line_first line more is_line in
        let both = run_of-done s (event_for limit line) (events limit more) done in
        let run = ap (λ lines. run_of law s (map (event_for limit) lines)) lines.0 ∙ both.0 in (
          run,
          ap (λ lines. ends law s (map (event_for limit) lines)) lines.0 ∙ both.1,
          ap (λ run. after_lines (length run) (line ++ more)) run
              ∙ (λ i. concat (drop 1 (lines.0 i)) ++ lines.1 i)
              ∙ sym (Lines-lines_of more).whole,
        )

    pub unread-incomplete : (s : S) (incomplete : Bytes) → Lacks LF incomplete
        → unread limit law s incomplete ≡ incomplete
    unread-incomplete s incomplete unended =
        ap (λ lines. concat (drop (length (run_of law s (map (event_for limit) lines))) lines)
        ++ incomplete_line incomplete) (lines_of-incomplete incomplete unended)
        ∙ incomplete_line-incomplete incomplete unended

    -- a run that doesn't end leaves the incomplete line, and goes on over more bytes
    pub unread-on : (s : S) (input : Bytes) → ends_for limit law s input ≡ false
        → unread limit law s input ≡ incomplete_line input
    unread-on s input on =
        let all : length (run_for limit law s input) ≡ length (lines_of input) =
        ap length (run_of-all s (events limit input) on)
        ∙ length-map (lines_of input) (event_for limit) in
        ap (λ lines. concat lines ++ incomplete_line input)
        (drop_all (length (run_for limit law s input)) (lines_of input) (omega (arith, all)))

    pub after_end-on : (s : S) (input : Bytes) → ends_for limit law s input ≡ false
        → after_end limit law s input ≡ []
    after_end-on s input on = ap (λ ended. if ended then unread limit law s input else []) on

    module _ (s : S) (input more : Bytes) where
      abbrev goes_on : S
      goes_on = last_state law s (events limit input)

      pub run-append : ends_for limit law s input ≡ false →
          (run_for limit law s (input ++ more)
          ≡ events limit input ++ run_for limit law goes_on (incomplete_line input ++ more))
          × (ends_for limit law s (input ++ more)
          ≡ ends_for limit law goes_on (incomplete_line input ++ more))
      run-append on =
          let all = run_of-all s (events limit input) on in (
            ap (run_of law s) (events-append limit input more)
                ∙ run_of-append s (events limit input) _ ∙ rw (on, all) refl,
            ap (ends law s) (events-append limit input more)
                ∙ ends-append s (events limit input) _ ∙ rw on refl,
          )

      pub unread-append : ends_for limit law s input ≡ false →
          unread limit law s (input ++ more)
          ≡ unread limit law goes_on (incomplete_line input ++ more)
      unread-append on =
          ap (λ run. after_lines (length run) (input ++ more)) (run-append on).0
          ∙ after_lines-append limit input more _

      -- one that ended takes none of them
      pub run-ended : ends_for limit law s input ≡ true →
          (run_for limit law s (input ++ more) ≡ run_for limit law s input)
          × (ends_for limit law s (input ++ more) ≡ true)
      run-ended ended = (
        ap (run_of law s) (events-append limit input more)
            ∙ run_of-append s (events limit input) _ ∙ rw ended (append-nil _),
        ap (ends law s) (events-append limit input more)
            ∙ ends-append s (events limit input) _ ∙ rw ended refl,
      )

      pub unread-ended : ends_for limit law s input ≡ true → unread limit law s (input ++ more)
          ≡ unread limit law s input ++ more
      unread-ended ended =
          let run : List FtpEvent = run_for limit law s input in
          let first = run_of-first s (events limit input) in
          ap (λ run. after_lines (length run) (input ++ more)) (run-ended ended).0
          ∙ after_lines-more (length run) input more (omega (
            arith,
            ap length first.1,
            length-append run first.0,
            length-map (lines_of input) (event_for limit),
          ))

      pub after_end-ended : ends_for limit law s input ≡ true
          → after_end limit law s (input ++ more) ≡ after_end limit law s input ++ more
      after_end-ended ended =
          ap (λ ended. if ended then unread limit law s (input ++ more) else [])
          (run-ended ended).1
          ∙ unread-ended ended
          ∙ ap (λ ended. (if ended then unread limit law s input else []) ++ more) (sym ended)

    -- the replies of pieces: those of the first one, and later ones where the run goes on
    in_turn-first : (s : S) (first more : Bytes) {later : List FtpReply} →
        later ≡ replies law (last_state law s (events limit first))
        (run_for limit law (last_state law s (events limit first))
        (incomplete_line first ++ more)) →
        (ended : Bool) → ends_for limit law s first ≡ ended →
        replies law s (run_for limit law s first) ++ (if ended then [] else later)
        ≡ replies law s (run_for limit law s (first ++ more))
    in_turn-first s first more is true ended =
        append-nil (replies law s (run_for limit law s first))
        ∙ sym (ap (replies law s) (run-ended s first more ended).0)
    in_turn-first s first more {later} is false on =
        let s' : S = last_state law s (events limit first) in
        ap (λ run. replies law s run ++ later) (run_of-all s (events limit first) on)
        ∙ ap (λ later. replies law s (events limit first) ++ later) is
        ∙ sym (replies-append law s (events limit first)
        (run_for limit law s' (incomplete_line first ++ more)))
        ∙ sym (ap (replies law s) (run-append s first more on).0)

    in_turn : (s : S) (incomplete : Bytes) (pieces : List Bytes) → Lacks LF incomplete →
        replies_in_turn limit law s incomplete pieces
        ≡ replies law s (run_for limit law s (incomplete ++ concat pieces))
    in_turn s incomplete [] unended =
        sym (ap (λ events. replies law s (run_of law s events))
        (ap (events limit) (append-nil incomplete) ∙ events-incomplete limit incomplete unended))
    in_turn s incomplete (piece ∷ pieces) unended =
        let first : Bytes = incomplete ++ piece in
        let s' : S = last_state law s (events limit first) in
        in_turn-first s first (concat pieces)
        (in_turn s' (incomplete_line first) pieces (Lines-lines_of first).unended)
        (ends_for limit law s first) refl
        ∙ ap (λ input. replies law s (run_for limit law s input))
        (append_assoc incomplete piece (concat pieces))

    pub replies_in_turn-joined : (s : S) (pieces : List Bytes)
        → replies_in_turn limit law s [] pieces
        ≡ replies law s (run_for limit law s (concat pieces))
    replies_in_turn-joined s pieces = in_turn s [] pieces tt

-- what comes after some lines is not more than the whole
concat-drop : (n : ℕ) (lines : List Bytes) → length (concat (drop n lines)) ≤ length (concat lines)
concat-drop zero lines = omega arith
concat-drop (suc n) [] = omega arith
concat-drop (suc n) (line ∷ lines) =
    omega (arith, concat-drop n lines, length-append line (concat lines))

pub after_lines-within : (n : ℕ) (input : Bytes) → length (after_lines n input) ≤ length input
after_lines-within n input = omega (
  arith,
  concat-drop n (lines_of input),
  ap length (Lines-lines_of input).whole,
  length-append (concat (lines_of input)) (incomplete_line input),
  length-append (concat (drop n (lines_of input))) (incomplete_line input),
)

pub after_end-within : {S : Type 0} (law : SessionLaw S) (limit : Option ℕ) (s : S) (input : Bytes)
    → length (after_end limit law s input) ≤ length input
after_end-within law limit s input = by_end (ends_for limit law s input)
  where
    by_end : (ended : Bool) → length (if ended then unread limit law s input else []) ≤ length input
    by_end true = after_lines-within (length (run_for limit law s input)) input
    by_end false = omega arith
