-- What is written, called and returned depends on passwords and accounts only by the answers.
use Rattle.std.proofs.Common.{◌≡◌, ℕ, zero, suc, drop, arith, Bool, true, false, cond, ◌⊎◌, ⊎_elim, IsTrue, List, [], ◌∷◌, ◌++◌, Option, refl, sym, ap, subst, ◌∙◌, append_assoc}
use Rattle.std.specs.Prelude.{if◌then◌else◌, flat_map, length, Ok, Err}
use Rattle.std.proofs.lemmas.Bool.{false≢true}
use Rattle.unftp_control_defs.specs.Bytes.{Bytes}
use Rattle.unftp_control_defs.specs.Canonical.{canonical_line}
use Rattle.unftp_control_defs.specs.FtpCommand.{Outcome, User, Pass, unless_empty}
use Rattle.unftp_control_defs.specs.Events.{Fault, FtpEvent, Command, Refused, event_of, events, exceeds, line_too_long}
use Rattle.unftp_control_defs.specs.FtpReply.{FtpReply, Nothing, encoded}
use Rattle.unftp_control_defs.specs.Lines.{incomplete_line, lines_of}
use Rattle.unftp_control_defs.specs.Outcome.{outcome}
use Rattle.unftp_control_defs.specs.Run.{SessionLaw, after, all_replies, at_each, last_state, replies, replies_to, run_of, turn_replies, state_after, text_for, text_of, turn}
use Rattle.unftp_control_defs.proofs.LineEventLemmas.{events-after, events-canonical_line}
use Rattle.unftp_control_defs.proofs.SoundLemmas.{IsTyped-raw}
use Rattle.unftp_control_codecs.specs.Memory.{OutcomeMayTakeMemory, MayTakeMemory}
use Rattle.unftp_control_serve.specs.Decoder.{FirstMayRunOut}
use Rattle.unftp_control_serve.specs.Endings.{Cause, Finished, Write, Handler, LineMemory, ReplyMemory, EndsAt, HasAnswered, Unsent, whole_text}
use Rattle.unftp_control_serve.specs.Writing.{Begins}
use Rattle.unftp_control_login.specs.declared.stage.Progress.{Progress}
use Rattle.unftp_control_login.specs.declared.stage.Progress.TheVariants.{LoggedIn, Named, NoName}
use Rattle.unftp_control_login.specs.declared.stage.Role.{Role}
use Rattle.unftp_control_login.specs.declared.stage.Role.TheVariants.{Closed, Password}
use Rattle.unftp_control_login.specs.declared.stage.Stage.{Stage}
use Rattle.unftp_control_login.specs.Login.{Accounts, GaveName, login_step, role_in}
use Rattle.unftp_control_login.specs.Gate.{Gated, LogsIn, Refuses, decision_at, gated_law, nobody, not_accepted, stage_after, stage_after_all, stage_by}
use Rattle.unftp_control_login.specs.LoginLimit.{is_pass}
use Rattle.unftp_control_login.specs.Promises.{AccountsStayHidden, AtEachPlace, CallsHidePasswords, ErrorsHidePasswords, GivesPassword, IsRefusedLogin, LooksAlike, PasswordFits, PasswordsStayHidden, RefusedLoginsLookAlike, RefusedPasswordsLookAlike, gate_calls, guarded, login_lines, pass_line}
use Rattle.unftp_control_login.proofs.StagedLemmas.{AllAlike, Alike, alike-itself, at, called, fails_alike, goes, turns}
use Rattle.unftp_control_login.proofs.StageLemmas.{Reason, ReasonAt, is_password, password-role, reason, reason-after, lifted, turn_replies-lifted}

-- Lines of passwords may take memory.
pass-outcome : (outcome : Outcome) → IsTrue (is_pass (event_of outcome))
    → OutcomeMayTakeMemory outcome
pass-outcome (Ok (Pass password)) h = omega arith
pass-outcome (Ok command) h = absurd (false≢true h)
pass-outcome (Err refusal) h = absurd (false≢true h)

pass-memory : (limit : Option ℕ) (line : Bytes) (long : Bool) → exceeds limit (length line) ≡ long
    → IsTrue (is_pass (cond long (Refused line_too_long) (event_of (outcome line))))
    → (exceeds limit (length line) ≡ false) × MayTakeMemory line
pass-memory limit line true e h = absurd (false≢true h)
pass-memory limit line false e h =
    (e, pass-outcome (outcome line) h)

-- Where memory may run out for a line of an input, it may for that at the same place of another one
-- that differs in passwords.
memory-alike : (limit : Option ℕ) (n : ℕ) (before lines others : List Bytes)
    → AtEachPlace (λ _ line another. (line ≡ another)
    ⊎ (GivesPassword limit line × GivesPassword limit another)) before lines others
    → FirstMayRunOut limit (drop n lines) → FirstMayRunOut limit (drop n others)
memory-alike limit zero before [] others same may = absurd may
memory-alike limit zero before (line ∷ lines) [] same may = absurd same
memory-alike limit zero before (line ∷ lines) (other ∷ others) same may = ⊎_elim
    (λ is. subst (λ line. (exceeds limit (length line) ≡ false) × MayTakeMemory line) is may)
    (λ both. pass-memory limit other (exceeds limit (length other)) refl both.1) same.0
memory-alike limit (suc n) before [] others same may = absurd may
memory-alike limit (suc n) before (line ∷ lines) [] same may = absurd same
memory-alike limit (suc n) before (line ∷ lines) (other ∷ others) same may =
    memory-alike limit n (before ++ line ∷ []) lines others same.1 may

-- Events that look alike, in bytes.
events-pass : (limit : Option ℕ) (before after password : Bytes) → incomplete_line before ≡ []
    → PasswordFits limit password
    → events limit (before ++ (pass_line password ++ after))
    ≡ events limit before ++ Command (Pass password) ∷ events limit after
events-pass limit before after password ended sent =
    events-after limit before (pass_line password ++ after) ended
    ∙ ap (λ later. events limit before ++ later)
    (events-canonical_line limit (Pass password) after sent.0 (IsTyped-raw (unless_empty password)) sent.1)

events-login : {limit : Option ℕ} {accepts : Accounts} {name password : Bytes}
    (before after : Bytes) → incomplete_line before ≡ []
    → IsRefusedLogin limit accepts name password
    → events limit (before ++ (login_lines name password ++ after))
    ≡ events limit before ++ Command (User name) ∷ Command (Pass password) ∷ events limit after
events-login {limit} {name = name} {password = password} before after ended h =
    events-after limit before (login_lines name password ++ after) ended
    ∙ ap (λ bytes. events limit before ++ events limit bytes)
    (append_assoc (canonical_line (User name)) (pass_line password) after)
    ∙ ap (λ later. events limit before ++ later)
    (events-canonical_line limit (User name) (pass_line password ++ after) h.name_sent.0 (IsTyped-raw (unless_empty name))
    h.name_sent.1
    ∙ ap (λ events. Command (User name) ∷ events)
    (events-canonical_line limit (Pass password) after h.password_sent.0 (IsTyped-raw (unless_empty password)) h.password_sent.1))

-- whether a password is accepted, and where it leaves the login
password-alike : (accepts other : Accounts) (progress : Progress) (name : Bytes)
    (past : List FtpEvent) (password another : Bytes) → ReasonAt accepts progress name past
    → ((name : Bytes) → GaveName name past → accepts name password ≡ other name another)
    → let stage : Stage = record { progress = progress; name = name } in
    Alike accepts other stage stage (Command (Pass password)) (Command (Pass another))
    × (stage_after accepts stage (Command (Pass password))
    ≡ stage_after other stage (Command (Pass another)))
password-alike accepts other Named name past password another given same = (
  record {
    decision = ap (λ test. cond test (LogsIn name) (Refuses not_accepted)) (same name given);
    quit = refl;
  },
  ap (λ test. record { progress = cond test LoggedIn NoName; name = [] }) (same name given),
)
password-alike accepts other progress name past password another given same =
    (record { decision = refl; quit = refl }, refl)

-- Accounts that aren't asked change nothing.
unasked-alike : (accepts other : Accounts) (progress : Progress) (role : Role) (name : Bytes)
    (event : FtpEvent) → is_password role ≡ false
    → let stage : Stage = record { progress = progress; name = name } in
    (decision_at (login_step progress role) accepts name event
    ≡ decision_at (login_step progress role) other name event)
    × (stage_by role accepts stage event ≡ stage_by role other stage event)
unasked-alike accepts other progress Password name event none = absurd (false≢true (sym none))
unasked-alike accepts other LoggedIn Closed name event none = (refl, refl)
unasked-alike accepts other progress role name event none = (refl, refl)

-- Events that look alike are.
all-themselves : (accepts : Accounts) (stage : Stage) (events : List FtpEvent)
    → AllAlike accepts accepts stage stage events events
all-themselves accepts stage [] = tt
all-themselves accepts stage (event ∷ events) = (
  alike-itself accepts stage event,
  all-themselves accepts (stage_after accepts stage event) events,
)

all-after : (accepts : Accounts) (stage : Stage) (before events others : List FtpEvent)
    → AllAlike accepts accepts (stage_after_all accepts stage before)
    (stage_after_all accepts stage before) events others
    → AllAlike accepts accepts stage stage (before ++ events) (before ++ others)
all-after accepts stage [] events others same = same
all-after accepts stage (event ∷ before) events others same = (
  alike-itself accepts stage event,
  all-after accepts (stage_after accepts stage event) before events others same,
)

look-alike : (accepts other : Accounts) (stage : Stage) (past : List FtpEvent)
    (event another : FtpEvent) → Reason accepts stage past
    → LooksAlike accepts other past event another
    → Alike accepts other stage stage event another
    × (stage_after accepts stage event ≡ stage_after other stage another)
look-alike accepts other stage past (Command (Pass password)) (Command (Pass another)) given same =
    password-alike accepts other stage.progress stage.name past password another given same
look-alike accepts other stage past (Command (Pass password)) another given same =
    absurd (false≢true (sym (ap is_pass same)))
look-alike accepts other stage past event another given same =
    let unasked = unasked-alike accepts other stage.progress (role_in event) stage.name event
    (sym (password-role event)) in
    subst (λ another. Alike accepts other stage stage event another
    × (stage_after accepts stage event ≡ stage_after other stage another)) same
    (record { decision = unasked.0; quit = refl }, unasked.1)

all-look-alike : (accepts other : Accounts) (stage : Stage) (past events others : List FtpEvent)
    → Reason accepts stage past → AtEachPlace (LooksAlike accepts other) past events others
    → AllAlike accepts other stage stage events others
all-look-alike accepts other stage past [] [] given same = tt
all-look-alike accepts other stage past [] (another ∷ others) given same = absurd same
all-look-alike accepts other stage past (event ∷ events) [] given same = absurd same
all-look-alike accepts other stage past (event ∷ events) (another ∷ others) given same =
    let step = look-alike accepts other stage past event another given same.0 in
    let next = stage_after accepts stage event in (
      step.0,
      subst (λ other_next. AllAlike accepts other next other_next events others) step.1
          (all-look-alike accepts other next (past ++ event ∷ []) events others
          (reason-after accepts stage.progress stage.name past event given) same.1),
    )

module _ {S : Type 0} (law : SessionLaw S) where
  abbrev gate : SessionLaw (Gated S)
  gate = gated_law law

  module _ (accepts other : Accounts) {R : Type 0} (f : Gated S → FtpEvent → R)
      (one : (stage other_stage : Stage) (s : Gated S) (event another : FtpEvent)
      → Alike accepts other stage other_stage event another
      → f (at other other_stage s) another ≡ f (at accepts stage s) event) where
    -- at each of the later events, where the handler isn't done
    abbrev later : Gated S → List FtpEvent → List R
    later s events = at_each f gate s (if gate.done s then [] else run_of gate s events)

    later-same : (s t : Gated S) (events others : List FtpEvent) → gate.done s ≡ gate.done t
        → at_each f gate s (run_of gate s events) ≡ at_each f gate t (run_of gate t others)
        → later s events ≡ later t others
    later-same s t events others same runs =
        ap (λ over. at_each f gate s (cond over [] (run_of gate s events))) same
        ∙ by_over (gate.done t)
      where
        by_over : (over : Bool) → at_each f gate s (cond over [] (run_of gate s events))
            ≡ at_each f gate t (cond over [] (run_of gate t others))
        by_over true = refl
        by_over false = runs

    each-same : (stage other_stage : Stage) (s : Gated S) (events others : List FtpEvent)
        → AllAlike accepts other stage other_stage events others
        → at_each f gate (at other other_stage s) (run_of gate (at other other_stage s) others)
        ≡ at_each f gate (at accepts stage s) (run_of gate (at accepts stage s) events)
    each-same stage other_stage s [] [] same = refl
    each-same stage other_stage s [] (another ∷ others) same = absurd same
    each-same stage other_stage s (event ∷ events) [] same = absurd same
    each-same stage other_stage s (event ∷ events) (another ∷ others) same =
        let n = after gate (at accepts stage s) event in
        let next = stage_after accepts stage event in
        let other_next = stage_after other other_stage another in
        (λ i. one stage other_stage s event another same.0 i
        ∷ later (goes law accepts other stage other_stage s event another same.0 i) others)
        ∙ ap (λ later. f (at accepts stage s) event ∷ later)
        (later-same (at other other_next n) (at accepts next n) others events
        refl
        (each-same next other_next n events others same.1)
        ∙ ap (λ t. later t events) (sym (goes law accepts accepts stage stage s event event
        (alike-itself accepts stage event))))

  module _ (accepts other : Accounts) (s : Gated S) (events others : List FtpEvent)
      (same : AllAlike accepts other nobody nobody events others) where
    text-same : text_of gate (at accepts nobody s) (run_of gate (at accepts nobody s) events)
        ≡ text_of gate (at other nobody s) (run_of gate (at other nobody s) others)
    text-same = ap (λ turns. flat_map encoded (all_replies turns)) (sym (each-same accepts other
        (replies_to gate) (λ stage other_stage s event another alike.
        ap turn_replies (turns law accepts other stage other_stage s event another alike)
        ∙ turn_replies-lifted (at other (stage_after other other_stage another))
        (turn gate (at accepts stage s) event)) nobody nobody s events others same))

    calls-same : at_each (gate_calls law) gate (at accepts nobody s)
        (run_of gate (at accepts nobody s) events)
        ≡ at_each (gate_calls law) gate (at other nobody s) (run_of gate (at other nobody s) others)
    calls-same = sym (each-same accepts other (gate_calls law) (called law accepts other) nobody
        nobody s events others same)

  -- At each of these events the handler does the same in the same state.
  record SameStep (t : Gated S) (event another : FtpEvent) : Type 0 where
    turns : turn gate t event ≡ turn gate t another
    may_fail : (fault : Fault) → gate.may_fail t event fault → gate.may_fail t another fault

  abbrev SameSteps : Gated S → List FtpEvent → List FtpEvent → Type 0
  SameSteps t [] [] = Unit {0}
  SameSteps t (event ∷ events) (another ∷ others) =
      SameStep t event another × SameSteps (after gate t event) events others
  SameSteps t events others = ⊥

  -- so it is of events that look alike,
  same-steps : (accepts : Accounts) (stage : Stage) (s : Gated S) (past events others : List FtpEvent)
      → Reason accepts stage past → AtEachPlace (LooksAlike accepts accepts) past events others
      → SameSteps (at accepts stage s) events others
  same-steps accepts stage s past [] [] given same = tt
  same-steps accepts stage s past [] (another ∷ others) given same = absurd same
  same-steps accepts stage s past (event ∷ events) [] given same = absurd same
  same-steps accepts stage s past (event ∷ events) (another ∷ others) given same =
      let itself = alike-itself accepts stage event in
      let step = look-alike accepts accepts stage past event another given same.0 in
      let turned = λ (other : FtpEvent). turns law accepts accepts stage stage s event other in (
        record {
          turns = turned event itself
              ∙ ap (λ next. lifted (at accepts next) (turn gate (at accepts stage s) event)) step.1
              ∙ sym (turned another step.0);
          may_fail = fails_alike law accepts accepts stage stage s event another step.0;
        },
        subst (λ t. SameSteps t events others)
            (sym (goes law accepts accepts stage stage s event event itself))
            (same-steps accepts (stage_after accepts stage event)
            (after gate (at accepts stage s) event) (past ++ event ∷ []) events others
            (reason-after accepts stage.progress stage.name past event given) same.1),
      )

  -- and then of the runs over them.
  same-runs : (t : Gated S) (events others : List FtpEvent) → SameSteps t events others
      → SameSteps t (run_of gate t events) (run_of gate t others)
  same-runs t [] [] same = tt
  same-runs t [] (another ∷ others) same = absurd same
  same-runs t (event ∷ events) [] same = absurd same
  same-runs t (event ∷ events) (another ∷ others) same =
      let n = after gate t event in (
        same.0,
        subst (λ next. SameSteps n (if gate.done n then [] else run_of gate n events)
            (if gate.done next then [] else run_of gate next others))
            (ap (state_after t) same.0.turns)
            (by_done (gate.done n) _ _ (same-runs n events others same.1)),
      )
    where
      by_done : (over : Bool) (run other_run : List FtpEvent)
          → SameSteps (after gate t event) run other_run
          → SameSteps (after gate t event) (if over then [] else run)
          (if over then [] else other_run)
      by_done true run other_run same = tt
      by_done false run other_run same = same

  -- A run that failed after some of its events, and what the other run has then.
  record Other (t : Gated S) (done later run : List FtpEvent) : Type 0 where
    done_too : List FtpEvent
    later_too : List FtpEvent
    whole : run ≡ done_too ++ later_too
    as_many : length done ≡ length done_too
    state : last_state gate t done ≡ last_state gate t done_too
    said_too : replies gate t done ≡ replies gate t done_too
    same_later : SameSteps (last_state gate t done) later later_too

  other_run : (t : Gated S) (done later run : List FtpEvent) → SameSteps t (done ++ later) run
      → Other t done later run
  other_run t [] later run same = record {
    done_too = [];
    later_too = run;
    whole = refl;
    as_many = refl;
    state = refl;
    said_too = refl;
    same_later = same;
  }
  other_run t (event ∷ done) later [] same = absurd same
  other_run t (event ∷ done) later (another ∷ run) same =
      let o = other_run (after gate t event) done later run same.1 in
      let turns = same.0.turns in
      record {
        done_too = another ∷ o.done_too;
        later_too = o.later_too;
        whole = ap (λ events. another ∷ events) o.whole;
        as_many = ap suc o.as_many;
        state = o.state ∙ ap (λ steps. last_state gate (state_after t steps) o.done_too) turns;
        said_too = ap (λ later. turn_replies (turn gate t event) ++ later) o.said_too
            ∙ ap (λ steps. turn_replies steps ++ replies gate
            (state_after t steps) o.done_too) turns;
        same_later = o.same_later;
      }

  ends-alike : (cause : Cause) (t : Gated S) (later others : List FtpEvent) (sent : List (FtpReply × Gated S))
      (t' : Gated S) → SameSteps t later others → EndsAt gate cause t later sent t'
      → EndsAt gate cause t others sent t'
  ends-alike cause t [] [] sent t' same ends = ends
  ends-alike cause t [] (another ∷ others) sent t' same ends = absurd same
  ends-alike cause t (event ∷ later) [] sent t' same ends = absurd same
  ends-alike Finished t (event ∷ later) (another ∷ others) sent t' same ends = absurd ends
  ends-alike (Write part) t (event ∷ later) (another ∷ others) sent t' same ends = subst
      (λ steps. Unsent steps sent (λ reply. Begins (encoded reply) part) t') same.0.turns ends
  ends-alike (Handler fault) t (event ∷ later) (another ∷ others) [] t' same ends =
      same.0.may_fail fault ends
  ends-alike (Handler fault) t (event ∷ later) (another ∷ others) (given ∷ sent) t' same ends =
      (subst (λ steps. Begins steps (given ∷ sent)) same.0.turns ends.0, ends.1)
  ends-alike LineMemory t (event ∷ later) (another ∷ others) [] t' same ends = ends
  ends-alike LineMemory t (event ∷ later) (another ∷ others) (given ∷ sent) t' same ends =
      absurd ends
  ends-alike ReplyMemory t (event ∷ later) (another ∷ others) sent t' same ends =
      subst (λ steps. Unsent steps sent (λ reply. ¬ (reply ≡ Nothing)) t') same.0.turns ends

  pub errors-hidden : (limit : Option ℕ) (accepts : Accounts) (failures : Option ℕ) (inner : S)
      → ErrorsHidePasswords limit accepts gate (guarded failures accepts inner)
  errors-hidden limit accepts failures inner input other same differ before after error done is
      failed =
      let s : Gated S = guarded failures accepts inner in
      let t = before.state in
      let steps =
      same-steps accepts nobody s [] (events limit input) (events limit other) tt same in
      let runs = same-runs t (events limit input) (events limit other)
      (subst (λ t. SameSteps t (events limit input) (events limit other)) (sym is) steps) in
      let o = other_run t done failed.later (run_of gate t (events limit other))
      (subst (λ run. SameSteps t run (run_of gate t (events limit other))) failed.split runs) in (
        o.done_too,
        record {
          later = o.later_too;
          split = o.whole;
          sent = failed.sent;
          cause = failed.cause;
          means = failed.means;
          ended = record {
            ends_at = subst (λ t. EndsAt gate failed.cause t o.later_too failed.sent after.state)
                o.state (ends-alike failed.cause (last_state gate t done) failed.later o.later_too
                failed.sent after.state o.same_later failed.ended.ends_at);
            given = subst (λ text. HasAnswered text failed.cause before after)
                (by_sent t done o.done_too failed.sent (ap (flat_map encoded) o.said_too))
                failed.ended.given;
          };
          next_line = λ at_line. subst (λ n. FirstMayRunOut limit (drop n (lines_of other)))
              o.as_many (memory-alike limit (length done) [] (lines_of input)
              (lines_of other) differ (failed.next_line at_line));
        },
      )
    where
      by_sent : (t : Gated S) (done others : List FtpEvent) (sent : List (FtpReply × Gated S))
          → text_of gate t done ≡ text_of gate t others
          → whole_text gate t done sent ≡ whole_text gate t others sent
      by_sent t done others [] same = same
      by_sent t done others (step ∷ steps) same =
          ap (λ text. text ++ flat_map encoded (turn_replies (step ∷ steps))) same

  -- over inputs
  module _ (limit : Option ℕ) (accepts : Accounts) (failures : Option ℕ) (inner : S) where
    abbrev s : Gated S
    s = guarded failures accepts inner

    pub passwords-hidden : PasswordsStayHidden limit accepts gate s
    passwords-hidden input other same = text-same accepts accepts s (events limit input)
        (events limit other) (all-look-alike accepts accepts nobody [] _ _ tt same)

    pub calls-hidden : CallsHidePasswords limit accepts gate s (gate_calls law)
    calls-hidden input other same = calls-same accepts accepts s (events limit input)
        (events limit other) (all-look-alike accepts accepts nobody [] _ _ tt same)

    pub accounts-hidden : (other : Accounts) → AccountsStayHidden limit accepts other
        (gate_calls law) gate s (guarded failures other inner)
    accounts-hidden other input alike =
        let same = all-look-alike accepts other nobody [] (events limit input)
        (events limit input) tt alike in (
          text-same accepts other s (events limit input) (events limit input) same,
          calls-same accepts other s (events limit input) (events limit input) same,
        )

    -- after the same lines
    text-after : (before more others : List FtpEvent) (input other : Bytes)
        → events limit input ≡ before ++ more → events limit other ≡ before ++ others
        → AllAlike accepts accepts (stage_after_all accepts nobody before)
        (stage_after_all accepts nobody before) more others
        → text_for limit gate s input
        ≡ text_for limit gate s other
    text-after before more others input other one two same =
        text-same accepts accepts s (events limit input) (events limit other)
        (rw (one, two) (all-after accepts nobody before more others same))

    pub passwords-alike : RefusedPasswordsLookAlike limit accepts gate s
    passwords-alike before after password other ended one two same =
        let past : List FtpEvent = events limit before in
        let stage : Stage = stage_after_all accepts nobody past in
        let alike = password-alike accepts accepts stage.progress stage.name past password other
        (reason accepts nobody [] past tt) same in
        text-after past (Command (Pass password) ∷ events limit after)
        (Command (Pass other) ∷ events limit after) (before ++ (pass_line password ++ after))
        (before ++ (pass_line other ++ after)) (events-pass limit before after password ended one)
        (events-pass limit before after other ended two) (
          alike.0,
          subst (λ next. AllAlike accepts accepts
              (stage_after accepts stage (Command (Pass password)))
              next (events limit after) (events limit after)) alike.1 (all-themselves accepts _ _),
        )

    pub logins-alike : RefusedLoginsLookAlike limit accepts gate s
    logins-alike before after name password other another ended one two =
        text-after (events limit before)
        (Command (User name) ∷ Command (Pass password) ∷ events limit after)
        (Command (User other) ∷ Command (Pass another) ∷ events limit after)
        (before ++ (login_lines name password ++ after))
        (before ++ (login_lines other another ++ after)) (events-login before after ended one)
        (events-login before after ended two) (
          record { decision = refl; quit = refl },
          (
            record { decision = rw (one.refused, two.refused) refl; quit = refl },
            rw (one.refused, two.refused) (all-themselves accepts nobody (events limit after)),
          ),
        )
