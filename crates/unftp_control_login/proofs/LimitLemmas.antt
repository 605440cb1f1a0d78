-- How many logins fail in a run that has a limit.
use Rattle.std.proofs.Common.{◌≡◌, ◌<◌, ◌≤◌, ◌⊎◌, ⊎_elim, ℕ, zero, suc, ◌+◌, ◌-◌, ◌==◌, Bool, true, false, ◌&&◌, ◌||◌, cond, List, [], ◌∷◌, ◌++◌, Some, None, refl, sym, ap, ◌∙◌, arith, append_assoc}
use Rattle.std.proofs.lemmas.Bool.{cond_both, false≢true, lt-leb, ne_eqb}
use Rattle.std.proofs.lemmas.List.{append-nil}
use Rattle.unftp_control_defs.specs.Bytes.{Bytes}
use Rattle.unftp_control_defs.specs.Events.{FtpEvent, Command, is_quit}
use Rattle.unftp_control_defs.specs.FtpCommand.{Pass, Quit}
use Rattle.unftp_control_defs.specs.FtpReply.{FtpReply}
use Rattle.unftp_control_defs.specs.Run.{SessionLaw, after, turn_replies, state_after, replies_to}
use Rattle.unftp_control_login.specs.Gate.{GateDecision, Gated, LogsIn, Refuses, decided, decides, decision_at, gated_law, is_passed, is_refusal, limited, name_needed, not_accepted, password_in, reply_by, state_by, unlimited}
use Rattle.unftp_control_login.specs.Login.{Accounts, login_step, role_in}
use Rattle.unftp_control_login.specs.declared.stage.Progress.{Progress}
use Rattle.unftp_control_login.specs.declared.stage.Progress.TheVariants.{LoggedIn, Named}
use Rattle.unftp_control_login.specs.declared.stage.Role.{Role}
use Rattle.unftp_control_login.specs.declared.stage.Role.TheVariants.{Closed, Password}
use Rattle.unftp_control_login.specs.LoginLimit.{EndsWith, failed_in_run, has_failure, is_failed_login, is_failure, is_last, is_used_up, one_fewer, too_many}
use Rattle.unftp_control_login.proofs.MemberLemmas.{turned}
use Rattle.unftp_control_login.proofs.StageLemmas.{gate-after, is_password, password-role}

on-left : (quit : Bool) (left : ℕ) (done : Bool) → ((quit || (left == 0)) || done) ≡ false → 1 ≤ left
on-left true left done e = absurd (false≢true (sym e))
on-left false zero done e = absurd (false≢true (sym e))
on-left false (suc left) done e = omega arith

-- Without a limit a decision stays.
none-limited : (decision : GateDecision) → limited None decision ≡ decision
none-limited (Refuses reply) = refl
none-limited decision = refl

-- No login is refused but at a PASS.
no-refusal : (progress : Progress) (role : Role) (accepts : Accounts) (name : Bytes)
    (event : FtpEvent) → is_password role ≡ false
    → false ≡ is_refusal (decision_at (login_step progress role) accepts name event)
no-refusal progress Password accepts name event none = absurd (false≢true (sym none))
no-refusal LoggedIn Closed accepts name event none = refl
no-refusal progress role accepts name event none = refl

module _ {S : Type 0} (law : SessionLaw S) where
  abbrev gate : SessionLaw (Gated S)
  gate = gated_law law

  -- whether the login of one event fails
  abbrev failed : Gated S → FtpEvent → Bool
  failed s event = is_failed_login event (replies_to gate s event)

  abbrev refuses : Gated S → FtpEvent → Bool
  refuses s event = is_refusal (decided s.accepts s.stage event)

  -- whether a reply reports a failure, where this is decided
  abbrev fails : Gated S → GateDecision → Bool
  fails s decision = has_failure (reply_by law s.inner decision
      ∷ turn_replies (cond (is_passed decision) (law.more (state_by law s.inner decision)) []))

  refused-fails : (s : Gated S) (reply : FtpReply) → is_failure reply ≡ true
      → fails s (limited s.left (Refuses reply)) ≡ true
  refused-fails s reply fails-so = cond_both (is_last s.left) (Refuses too_many) (Refuses reply)
      (λ decision. fails s decision ≡ true) (λ _. refl) (λ _. ap (λ test. test || false) fails-so)

  password-fails : (s : Gated S) (progress : Progress) (event : FtpEvent)
      → let decision = decision_at (login_step progress Password) s.accepts s.stage.name event in
      fails s (limited s.left decision) ≡ is_refusal decision
  password-fails s Named event =
      cond_both (s.accepts s.stage.name (password_in event)) (LogsIn s.stage.name)
      (Refuses not_accepted) (λ decision. fails s (limited s.left decision) ≡ is_refusal decision)
      (λ _. refl) (λ _. refused-fails s not_accepted refl)
  password-fails s progress event = refused-fails s name_needed refl

  failed-refuses : (s : Gated S) (event : FtpEvent) → failed s event ≡ refuses s event
  failed-refuses s (Command (Pass password)) =
      ap has_failure (turned law s (Command (Pass password)) refl (refl, refl)).0
      ∙ password-fails s s.stage.progress (Command (Pass password))
  failed-refuses s event = no-refusal s.stage.progress (role_in event) s.accepts s.stage.name event
      (sym (password-role event))

  after-left : (s : Gated S) (event : FtpEvent) (refused : Bool) → refuses s event ≡ refused
      → (after gate s event).left ≡ cond refused (one_fewer s.left) s.left
  after-left s event refused is = ap (λ (s : Gated S). s.left) (gate-after law (gate.next s event))
      ∙ ap (λ refused. cond refused (one_fewer s.left) s.left) is

  last-said : (s : Gated S) (event : FtpEvent) → refuses s event ≡ true → is_last s.left ≡ true
      → replies_to gate s event ≡ too_many ∷ []
  last-said s event refused last = (turned law s event {decision = Refuses too_many}
      (λ i. cond (refused i && last i) (Refuses too_many) (decided s.accepts s.stage event))
      (refl, refl)).0

  pub record IsBounded (s : Gated S) (left : ℕ) (events : List FtpEvent) : Type 0 where
    pub few : failed_in_run gate s events ≤ left
    pub last : failed_in_run gate s events ≡ left → EndsWith too_many gate s events

  abbrev count : Bool → ℕ
  count failed = cond failed 1 0

  with_done : (done : Bool) {s : Gated S} {event : FtpEvent} {events : List FtpEvent}
      {left left' : ℕ} → gate.done (after gate s event) ≡ done
      → count (failed s event) + left' ≡ left
      → (count (failed s event) ≡ left → (earlier : List FtpReply)
      × (replies_to gate s event ≡ earlier ++ too_many ∷ []))
      → (done ≡ false → IsBounded (after gate s event) left' events)
      → IsBounded s left (event ∷ events)
  with_done true {s} {event} e counted last later = record {
    few = rw (e) (omega (arith, counted));
    last = rw (e) (λ all. let end = last (omega (arith, all)) in (
      refl,
      end.0,
      append-nil (replies_to gate s event) ∙ end.1,
    ));
  }
  with_done false {s} {event} {events} e counted last later =
      let rest = later refl in
      record {
        few = rw (e) (let few = rest.few in omega (arith, counted, few));
        last = rw (e) (λ all. let end = rest.last (omega (arith, counted, all)) in (
          end.0,
          replies_to gate s event ++ end.1,
          ap (λ replies. replies_to gate s event ++ replies) end.2
              ∙ sym (append_assoc (replies_to gate s event) end.1 (too_many ∷ [])),
        ));
      }

  pub bounded : (s : Gated S) (left : ℕ) (events : List FtpEvent) → s.left ≡ Some left → 1 ≤ left
      → IsBounded s left events
  bounded s left [] is some =
      record { few = omega arith; last = λ all. absurd (omega (arith, some, all)) }
  bounded s left (event ∷ events) is some = by_refused (refuses s event) refl
      (λ left same some. bounded (after gate s event) left events same some)
    where
      n : Gated S
      n = after gate s event

      by_refused : (refused : Bool) → refuses s event ≡ refused
          → ((left : ℕ) → n.left ≡ Some left → 1 ≤ left → IsBounded n left events)
          → IsBounded s left (event ∷ events)
      by_refused false e later =
          let none = ap count (failed-refuses s event ∙ e) in
          let same = after-left s event false e ∙ is in
          with_done (gate.done n) refl (omega (arith, none))
          (λ all. absurd (omega (arith, none, some, all))) (λ on. later left same some)
      by_refused true e later =
          let one = ap count (failed-refuses s event ∙ e) in
          let fewer = after-left s event true e ∙ ap one_fewer is in
          with_done (gate.done n) refl (omega (arith, one, some))
          (λ all. ([], last-said s event e (ap is_last (is ∙ ap Some (sym all ∙ one)))))
          (λ on. later (left - 1) fewer
          (on-left n.quit (left - 1) (law.done n.inner)
          (ap (λ left. (n.quit || is_used_up left) || law.done n.inner) (sym fewer) ∙ on)))

  by_quit : (quit used_up done : Bool) → (((quit || true) || used_up) || done) ≡ true
  by_quit true used_up done = refl
  by_quit false used_up done = refl

  pub quit-ends : (s : Gated S) → gate.done (after gate s (Command Quit)) ≡ true
  quit-ends s = ap gate.done (gate-after law (gate.next s (Command Quit)))
      ∙ by_quit s.quit (is_used_up s.left) _

  -- While more than one may fail, and where none does, a limit changes nothing.
  module _ (s : Gated S) (left : ℕ) (event : FtpEvent) (is : s.left ≡ Some left)
      (few : (1 < left) ⊎ (failed (unlimited s) event ≡ false)) where
    abbrev own : GateDecision
    own = decided s.accepts s.stage event

    refused-few : is_refusal own ≡ true → 1 < left
    refused-few e = ⊎_elim (λ more. more)
        (λ none. absurd (false≢true (sym none ∙ failed-refuses (unlimited s) event ∙ e))) few

    not-last : (refused : Bool) → is_refusal own ≡ refused
        → (refused && is_last s.left) ≡ false
    not-last false e = refl
    not-last true e = ap is_last is ∙ lt-leb left 1 (refused-few e)

    same : decides s event ≡ decides (unlimited s) event
    same = ap (λ last. cond last (Refuses too_many) own) (not-last _ refl) ∙ sym (none-limited own)

    pub says-unchanged : replies_to gate s event ≡ replies_to gate (unlimited s) event
    says-unchanged = (turned law s event same (refl, refl)).0
        ∙ sym (turned law (unlimited s) event refl (refl, refl)).0

    some-left : 1 ≤ left → (refused : Bool) → refuses s event ≡ refused
        → is_used_up (cond refused (one_fewer s.left) s.left) ≡ false
    some-left some false e =
        ap is_used_up is ∙ ne_eqb left 0 (λ none. omega (arith, some, none))
    some-left some true e = let more = refused-few e in
        ap (λ left. is_used_up (one_fewer left)) is
        ∙ ne_eqb (left - 1) 0 (λ none. omega (arith, more, none))

    none-used : (refused : Bool) → is_used_up (cond refused (one_fewer None) None) ≡ false
    none-used true = refl
    none-used false = refl

    pub done-unchanged : 1 ≤ left → gate.done (after gate s event)
        ≡ gate.done (after gate (unlimited s) event)
    done-unchanged some =
        ap gate.done (gate-after law (gate.next s event))
        ∙ (λ i. ((s.quit || is_quit event) || (some-left some _ refl
        ∙ sym (none-used (refuses (unlimited s) event))) i) || law.done
        (state_after (state_by law s.inner (same i))
        (cond (is_passed (same i)) (law.more (state_by law s.inner (same i))) [])))
        ∙ sym (ap gate.done (gate-after law (gate.next (unlimited s) event)))
