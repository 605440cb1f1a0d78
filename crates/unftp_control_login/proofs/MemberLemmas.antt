-- Who is served: only who has logged in.
use Rattle.std.proofs.Common.{◌≡◌, ◌<◌, ℕ, Bool, true, false, not, ◌&&◌, ◌||◌, cond, IsTrue, List, [], ◌∷◌, ◌++◌, length, filter_map, map, take, Option, Some, ◌⊎◌, ⊎_elim, inl, inr, refl, sym, ap, ◌∙◌, subst, arith}
use Rattle.std.specs.List.{AllByRecursion}
use Rattle.std.specs.Option.{IfSome}
use Rattle.std.specs.Prelude.{if◌then◌else◌}
use Rattle.std.proofs.lemmas.Bool.{cond_both, or_parts}
use Rattle.std.proofs.lemmas.List.{length-map}
use Rattle.std.proofs.Math.Seq.{take-append_seam}
use Rattle.unftp_control_defs.specs.Bytes.{Bytes}
use Rattle.unftp_control_defs.specs.FtpCommand.{User, Pass}
use Rattle.unftp_control_defs.specs.Events.{FtpEvent, Command, events}
use Rattle.unftp_control_defs.specs.FtpReply.{FtpReply, IsReadable, reply_as_read}
use Rattle.unftp_control_defs.specs.Run.{SessionLaw, after, all_replies, ends, last_state, replies, run_for, run_of, turn_replies, state_after, text_for, turn, replies_by_event, replies_to}
use Rattle.unftp_control_defs.specs.Turns.{cut_after_final, cut_reads, is_preliminary_reply}
use Rattle.unftp_control_defs.proofs.EncodingLemmas.{ReadsBack-encoded, are_plain, are_shown}
use Rattle.unftp_control_defs.proofs.ExchangeLemmas.{all-append, cut-exchange, cut-read, length-replies_by_event}
use Rattle.unftp_control_defs.proofs.RunLemmas.{last_state-append, run_of-first}
use Rattle.unftp_control_login.specs.declared.stage.LoginStep.{LoginStep}
use Rattle.unftp_control_login.specs.declared.stage.LoginStep.TheVariants.{AskAccounts, NeedLogin, NeedName, NeedPassword, PassOn}
use Rattle.unftp_control_login.specs.declared.stage.Stage.{Stage}
use Rattle.unftp_control_login.specs.Login.{Accounts, GaveName, IsLoggedIn, is_login, login_step, needs_login, role_in}
use Rattle.unftp_control_login.specs.Gate.{Answers, GateDecision, Gated, LogsIn, PassesOn, Refuses, decided, decides, decision_at, gated_law, is_logged_in, is_passed, limited, logged_in, login_needed, name_needed, nobody, not_accepted, password_in, password_needed, reply_by, stage_after_all, state_by}
use Rattle.unftp_control_login.specs.LoginLimit.{is_last, is_used_up, too_many}
use Rattle.unftp_control_login.specs.Promises.{AfterLogin, AtEachPlace, IsPlainExchange, IsTurnedAway, LearnsName, MembersAlone, NoFailure, ReachesHandler, SendsPlainExchanges, ServesMembersAlone, guarded}
use Rattle.unftp_control_login.proofs.StageLemmas.{GaveName-stage, IsLoggedIn-stage, closed-step, gate-after, gate-more, logged_in-stage, passed-step, passed_more, turn_replies-lifted}
use Rattle.unftp_control_login.proofs.FinalLemmas.{IsFinal, final}
use Rattle.unftp_control_login.proofs.StagedLemmas.{at, last-at}

all-of : {X : Type 0} (P : X → Type 0) (xs : List X) → ((x : X) → P x) → AllByRecursion P xs
all-of P [] each = tt
all-of P (x ∷ xs) each = (each x, all-of P xs each)

-- What the gate does with an event that is neither USER nor PASS.
module _ {S : Type 0} (law : SessionLaw S) (s : Gated S) (event : FtpEvent) where
  -- its turn, if this is decided
  abbrev Turns : GateDecision → List FtpReply → S → Type 0
  Turns decision sent inner =
      (reply_by law s.inner decision
      ∷ turn_replies (if is_passed decision then law.more (state_by law s.inner decision) else [])
      ≡ sent)
      × (state_after (state_by law s.inner decision)
      (if is_passed decision then law.more (state_by law s.inner decision) else []) ≡ inner)

  pub turned : {sent : List FtpReply} {inner : S} {decision : GateDecision}
      → decides s event ≡ decision → Turns decision sent inner
      → (replies_to (gated_law law) s event ≡ sent)
      × ((after (gated_law law) s event).inner ≡ inner)
  turned {sent} {inner} is turns =
      let n = (gated_law law).next s event in
      let so : Turns (decides s event) sent inner =
      subst (λ decision. Turns decision sent inner) (sym is) turns in (
        ap (λ replies. (gated_law law).says s event ∷ replies)
            (ap turn_replies (gate-more law n) ∙ turn_replies-lifted _ (passed_more law n)) ∙ so.0,
        ap (λ (s : Gated S). s.inner) (gate-after law n) ∙ so.1,
      )

  -- what is decided at a step that the limit doesn't change
  decided-at : {step : LoginStep} → login_step s.stage.progress (role_in event) ≡ step
      → decides s event ≡ limited s.left (decision_at step s.accepts s.stage.name event)
  decided-at is = ap (λ step. limited s.left (decision_at step s.accepts s.stage.name event)) is

  pub barred-turn : IsTrue (needs_login event) → is_logged_in s.stage.progress ≡ false
      → (replies_to (gated_law law) s event ≡ login_needed ∷ [])
      × ((after (gated_law law) s event).inner ≡ s.inner)
  barred-turn needs out = turned (decided-at (closed-step s.stage.progress (role_in event) needs
      ∙ ap (λ test. cond test PassOn NeedLogin) out)) (refl, refl)

  pub open-turn : is_login event ≡ false
      → (needs_login event && not (is_logged_in s.stage.progress)) ≡ false
      → (replies_to (gated_law law) s event ≡ replies_to law s.inner event)
      × ((after (gated_law law) s event).inner ≡ after law s.inner event)
  open-turn other free =
      turned (decided-at (passed-step s.stage.progress event other free)) (refl, refl)

module _ {S : Type 0} (law : SessionLaw S) (accepts : Accounts) (failures : Option ℕ) (inner : S)
  where
    abbrev first : Gated S
    first = guarded failures accepts inner

    abbrev after_all : List FtpEvent → Gated S
    after_all before = last_state (gated_law law) first before

    state-is : (before : List FtpEvent) → (base : Gated S)
        × (after_all before ≡ at accepts (stage_after_all accepts nobody before) base)
    state-is before = last-at law accepts nobody first before

    stage-is : (before : List FtpEvent)
        → (after_all before).stage ≡ stage_after_all accepts nobody before
    stage-is before = ap (λ (s : Gated S). s.stage) (state-is before).1

    gated_at : (before : List FtpEvent) (event : FtpEvent) → IsTrue (needs_login event)
        → (member : Bool) → is_logged_in (after_all before).stage.progress ≡ member
        → IsLoggedIn accepts before ⊎ IsTurnedAway law first before event
    gated_at before event needs true e =
        inl (logged_in-stage accepts before
        (ap (λ (stage : Stage). is_logged_in stage.progress) (sym (stage-is before)) ∙ e))
    gated_at before event needs false e =
        inr (barred-turn law (after_all before) event needs e)

    pub gated-all : (before : List FtpEvent) (event : FtpEvent) → IsTrue (needs_login event)
        → IsLoggedIn accepts before ⊎ IsTurnedAway law first before event
    gated-all before event needs =
        gated_at before event needs (is_logged_in (after_all before).stage.progress) refl

    needs_none : (needs member : Bool) → needs ≡ false → (needs && not member) ≡ false
    needs_none needs member e = ap (λ test. test && not member) e

    is_member : (needs : Bool) → (needs && not true) ≡ false
    is_member true = refl
    is_member false = refl

    pub member-reaches : (before : List FtpEvent) (event : FtpEvent) → is_login event ≡ false
        → IsLoggedIn accepts before
        → ReachesHandler law first before event
    member-reaches before event other member =
        open-turn law (after_all before) event other
        (ap (λ progress. needs_login event && not (is_logged_in progress))
        (ap (λ (stage : Stage). stage.progress) (stage-is before)
        ∙ IsLoggedIn-stage accepts before member)
        ∙ is_member (needs_login event))

    pub open-reaches : (before : List FtpEvent) (event : FtpEvent) → is_login event ≡ false
        → needs_login event ≡ false
        → ReachesHandler law first before event
    open-reaches before event other free =
        open-turn law (after_all before) event other
        (needs_none (needs_login event) (is_logged_in (after_all before).stage.progress) free)

    -- an accepted password: the handler receives the name
    pub name-learned : (before : List FtpEvent) (name password : Bytes) → GaveName name before
        → accepts name password ≡ true → LearnsName law first before name password
    name-learned before name password named accepted =
        let s = after_all before in
        let is = (state-is before).1 in
        (turned law s (Command (Pass password)) {sent = logged_in ∷ []}
        (ap (limited s.left) ((λ i. decided (is i).accepts (is i).stage (Command (Pass password)))
        ∙ ap (λ stage. decided accepts stage (Command (Pass password)))
        (GaveName-stage accepts name before named)
        ∙ ap (λ test. cond test (LogsIn name) (Refuses not_accepted)) accepted)) (refl, refl)).1

    -- Who is served.
    pub serves-members : ServesMembersAlone accepts (gated_law law) first
    serves-members before event needs = ⊎_elim
        (λ member. all-of (λ reply. NoFailure reply → IsLoggedIn accepts before)
        (replies_to (gated_law law) (after_all before) event) (λ reply ok. member))
        (λ away. subst (AllByRecursion (λ reply. NoFailure reply → IsLoggedIn accepts before))
        (sym away.0) ((λ low. absurd (omega (arith, low))), tt))
        (gated-all before event needs)

-- What is so of a run is so of what is left of it.
sends-later : {S : Type 0} (law : SessionLaw S) (s t : S) (event : FtpEvent)
    → SendsPlainExchanges law s → t ≡ after law s event → law.done t ≡ false
    → SendsPlainExchanges law t
sends-later law s t event sends same on = subst (SendsPlainExchanges law) (sym same)
    (λ before later goes_on. sends (event ∷ before) later
    ((λ i. (sym (ap law.done same) ∙ on) i || ends law (after law s event) before) ∙ goes_on))

-- The gate's own replies are final ones,
abbrev OwnFinal : GateDecision → Type 0
OwnFinal (Answers reply) = IsFinal reply
OwnFinal (Refuses reply) = IsFinal reply
OwnFinal (LogsIn name) = IsFinal logged_in
OwnFinal (PassesOn event) = Unit {0}

refusal-final : (left : Option ℕ) (reply : FtpReply) → IsFinal reply
    → OwnFinal (limited left (Refuses reply))
refusal-final left reply own = cond_both (is_last left) (Refuses too_many) (Refuses reply) OwnFinal
    (λ _. final too_many refl) (λ _. own)

step-final : (left : Option ℕ) (step : LoginStep) (accepts : Accounts) (name : Bytes)
    (event : FtpEvent) → OwnFinal (limited left (decision_at step accepts name event))
step-final left PassOn accepts name event = tt
step-final left NeedPassword accepts name event = final password_needed refl
step-final left AskAccounts accepts name event =
    cond_both (accepts name (password_in event)) (LogsIn name) (Refuses not_accepted)
    (λ decision. OwnFinal (limited left decision)) (λ _. final logged_in refl)
    (λ _. refusal-final left not_accepted (final not_accepted refl))
step-final left NeedName accepts name event =
    refusal-final left name_needed (final name_needed refl)
step-final left NeedLogin accepts name event = final login_needed refl

decides-final : {S : Type 0} (s : Gated S) (event : FtpEvent) → OwnFinal (decides s event)
decides-final s event = step-final s.left (login_step s.stage.progress (role_in event)) s.accepts
    s.stage.name event

-- and all others those of the handler, which stays, or has received an event.
gate-turn : {S : Type 0} (law : SessionLaw S) (s : Gated S) (event : FtpEvent)
    → SendsPlainExchanges law s.inner → IsPlainExchange (replies_to (gated_law law) s event)
    × (law.done (after (gated_law law) s event).inner ≡ false
    → SendsPlainExchanges law (after (gated_law law) s event).inner)
gate-turn {S = S} law s event sends = by_decision (decides s event) refl (decides-final s event) where
  n : S
  n = (after (gated_law law) s event).inner

  answered : (reply : FtpReply) → (replies_to (gated_law law) s event ≡ reply ∷ []) × (n ≡ s.inner)
      → IsFinal reply → IsPlainExchange (replies_to (gated_law law) s event)
      × (law.done n ≡ false → SendsPlainExchanges law n)
  answered reply turn own = (
    subst IsPlainExchange (sym turn.0) (own.1, (own.0, tt)),
    λ on. subst (SendsPlainExchanges law) (sym turn.1) sends,
  )

  by_decision : (decision : GateDecision) → decides s event ≡ decision → OwnFinal decision
      → IsPlainExchange (replies_to (gated_law law) s event)
      × (law.done n ≡ false → SendsPlainExchanges law n)
  by_decision (Answers reply) is own =
      answered reply (turned law s event {sent = reply ∷ []} is (refl, refl)) own
  by_decision (Refuses reply) is own =
      answered reply (turned law s event {sent = reply ∷ []} is (refl, refl)) own
  by_decision (LogsIn name) is own =
      let turn = turned law s event {sent = logged_in ∷ []} is (refl, refl) in (
        subst IsPlainExchange (sym turn.0) (own.1, (own.0, tt)),
        sends-later law s.inner n (Command (User name)) sends turn.1,
      )
  by_decision (PassesOn passed) is own =
      let turn = turned law s event {sent = replies_to law s.inner passed} is (refl, refl) in (
        subst IsPlainExchange (sym turn.0) (sends [] passed refl),
        sends-later law s.inner n passed sends turn.1,
      )

gate-plain : {S : Type 0} (law : SessionLaw S) (s : Gated S) → SendsPlainExchanges law s.inner
    → SendsPlainExchanges (gated_law law) s
gate-plain law s sends [] event on = (gate-turn law s event sends).0
gate-plain law s sends (past ∷ before) event on =
    let next = after (gated_law law) s past in
    let goes_on = or_parts ((gated_law law).done next) (ends (gated_law law) next before) on in
    gate-plain law next ((gate-turn law s past sends).1
    (or_parts (next.quit || is_used_up next.left) (law.done next.inner) goes_on.0).1) before event
    goes_on.1

-- the replies to the events of a run
run-plain : {S : Type 0} (law : SessionLaw S) (s : S) (events : List FtpEvent)
    → SendsPlainExchanges law s
    → AllByRecursion IsPlainExchange (replies_by_event law s (run_of law s events))
run-plain law s [] sends = tt
run-plain law s (event ∷ events) sends =
    let next = after law s event in (
      sends [] event refl,
      cond_both (law.done next) [] (run_of law next events)
          (λ run. AllByRecursion IsPlainExchange (replies_by_event law next run)) (λ _. tt)
          (λ on. run-plain law next events (sends-later law s next event sends refl on)),
    )

plain-readable : (turns : List (List FtpReply)) → AllByRecursion IsPlainExchange turns
    → AllByRecursion IsReadable (all_replies turns)
plain-readable [] plain = tt
plain-readable (turn ∷ turns) plain =
    all-append IsReadable turn (all_replies turns) plain.0.1 (plain-readable turns plain.1)

-- a client that cuts them after each final one has those to each event apart
plain-cut : (turns : List (List FtpReply)) → AllByRecursion IsPlainExchange turns
    → cut_after_final (all_replies turns) ≡ turns
plain-cut [] plain = refl
plain-cut (turn ∷ turns) plain =
    cut-exchange is_preliminary_reply turn (all_replies turns) plain.0.0
    ∙ ap (λ later. turn ∷ later) (plain-cut turns plain.1)

-- What is read of a part of the replies.
after-part : (Q : Type 0) (replies : List FtpReply) (read : List (ℕ × List Bytes))
    → map Some read ≡ map reply_as_read replies
    → AllByRecursion (λ reply. NoFailure reply → Q) replies
    → AllByRecursion (λ (reply : ℕ × List Bytes). reply.0 < 400 → Q) read
after-part Q [] [] is each = tt
after-part Q [] (one ∷ read) is each = absurd (cc)
after-part Q (reply ∷ replies) [] is each = absurd (cc)
after-part Q (reply ∷ replies) (one ∷ read) is each =
    let first : Some one ≡ reply_as_read reply = cc in
    let later : map Some read ≡ map reply_as_read replies = cc in (
      λ low. each.0 (subst (λ shown. IfSome shown (λ read. read.0 < 400)) first low),
      after-part Q replies read later each.1,
    )

-- A handler that serves only members, and sends plain exchanges, does so in bytes.
module _ {S : Type 0} (law : SessionLaw S) (first : S) (accepts : Accounts)
    (serves : ServesMembersAlone accepts law first) (sends : SendsPlainExchanges law first) where
  after_login : (before : List FtpEvent) (s : S) (events : List FtpEvent)
      (parts : List (List (ℕ × List Bytes))) → last_state law first before ≡ s
      → map (map Some) parts ≡ map (map reply_as_read) (replies_by_event law s events)
      → AtEachPlace (AfterLogin accepts) before events parts
  after_login before s [] [] same is = tt
  after_login before s [] (part ∷ parts) same is = absurd (cc)
  after_login before s (event ∷ events) [] same is = absurd (cc)
  after_login before s (event ∷ events) (part ∷ parts) same is =
      let read : map Some part ≡ map reply_as_read (replies_to law s event) = cc in
      let later : map (map Some) parts
      ≡ map (map reply_as_read) (replies_by_event law (after law s event) events) = cc in (
        λ needs. after-part (IsLoggedIn accepts before) (replies_to law s event) part read
            (subst (λ s. AllByRecursion (λ reply. NoFailure reply → IsLoggedIn accepts before)
            (replies_to law s event)) same (serves before event needs)),
        after_login (before ++ event ∷ []) (after law s event) events parts
            (last_state-append law first before (event ∷ []) ∙ ap (λ t. after law t event) same)
            later,
      )

  members-alone : (limit : Option ℕ) (input : Bytes)
      → MembersAlone limit accepts input (text_for limit law first input)
  members-alone limit input =
      let run = run_for limit law first input in
      let plain = run-plain law first (events limit input) sends in
      let sent = plain-readable (replies_by_event law first run) plain in
      let read = filter_map reply_as_read (replies law first run) in
      let reads = ReadsBack-encoded (replies law first run)
      (are_plain (replies law first run) sent) in
      let parts : map (map Some) (cut_reads read)
      ≡ map (map reply_as_read) (replies_by_event law first run) =
      cut-read (replies law first run) read (are_shown (replies law first run) sent)
      ∙ ap (map (map reply_as_read)) (plain-cut (replies_by_event law first run) plain) in
      let as_many : length (cut_reads read) ≡ length run =
      sym (length-map (cut_reads read) (map Some)) ∙ ap length parts
      ∙ length-map (replies_by_event law first run) (map reply_as_read)
      ∙ length-replies_by_event law first run in
      let same : take (length (cut_reads read)) (events limit input) ≡ run =
      let begins = run_of-first law first (events limit input) in
      (λ i. take (as_many i) (begins.1 i)) ∙ take-append_seam run begins.0 in
      record {
        read = read;
        replies = reads.0;
        no_other = reads.1;
        alone = subst (λ events. AtEachPlace (AfterLogin accepts) [] events (cut_reads read))
            (sym same) (after_login [] first run (cut_reads read) refl parts);
      }

pub guarded-members-alone : {S : Type 0} (law : SessionLaw S) (inner : S)
    → SendsPlainExchanges law inner
    → (limit : Option ℕ) (accepts : Accounts) (failures : Option ℕ) (input : Bytes)
    → MembersAlone limit accepts input
    (text_for limit (gated_law law) (guarded failures accepts inner) input)
guarded-members-alone law inner sends limit accepts failures input =
    members-alone (gated_law law) (guarded failures accepts inner) accepts
    (serves-members law accepts failures inner)
    (gate-plain law (guarded failures accepts inner) sends) limit input
