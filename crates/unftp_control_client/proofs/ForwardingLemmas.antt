-- The runs of a proxy that answers lines between the exchanges of its server.
use Rattle.std.proofs.Common.{◌≡◌, ◌≤◌, ◌+◌, ◌-◌, ℕ, suc, Bool, true, false, List, [], ◌∷◌, length, Option, Some, None, refl, sym, ap, subst, ◌∙◌, arith, unwrap_or}
use Rattle.std.proofs.lemmas.Bool.{false≢true, ltb-true}
use Rattle.std.specs.List.{filter}
use Rattle.unftp_control_defs.specs.Bytes.{Bytes}
use Rattle.unftp_control_defs.specs.Turns.{is_preliminary}
use Rattle.unftp_control_client.specs.Dialogue.{commands_owed}
use Rattle.unftp_control_client.specs.ForwardingSteps.{Answered, AreForwardingSteps, Forwarded, ForwardingStep, IsGreeted, Passed, among_all, is_line, replies_given}
use Rattle.unftp_control_client.specs.Steps.{AreExchanges, IsDialogueStep, ReplyTo, Took, is_final, is_something, was_owed}
use Rattle.unftp_control_client.specs.declared.dialogue.Dialogue.{Dialogue}
use Rattle.unftp_control_client.specs.declared.dialogue.To.{To}
use Rattle.unftp_control_client.specs.declared.dialogue.To.TheVariants.{Command}
use Rattle.unftp_control_client.proofs.ClientStepLemmas.{answered_after, complete, is_owed, is_to, now_answered, now_sent, open_exchange, owed, owed_where, preliminary}

-- So many lines were answered by the proxy: none before the greeting is complete. No more lines
-- have a final reply of the server than were sent to it.
abbrev pub IsBetween : ℕ → Option ℕ → ℕ → Type 0
IsBetween own None sent = own ≡ 0
IsBetween own (Some answered) sent = answered ≤ sent

-- the client's exchange that is not complete, and how many are
abbrev pub client_exchange : ℕ → Option ℕ → To
client_exchange own answered = among_all own (open_exchange answered)

abbrev pub finals : List ReplyTo → ℕ
finals replies = length (filter is_final replies)

pub between_line : (own : ℕ) (answered : Option ℕ) (sent : ℕ) → IsBetween own answered sent
    → IsBetween own answered (suc sent)
between_line own None sent is = is
between_line own (Some answered) sent is = omega (arith, is)

pub between_more : (own : ℕ) (answered : Option ℕ) (sent : ℕ) → IsGreeted answered
    → IsBetween own answered sent → IsBetween (suc own) answered sent
between_more own None sent greeted is = absurd greeted
between_more own (Some answered) sent greeted is = is

-- ---- a reply of the server

between_passed : (own : ℕ) (answered : Option ℕ) (sent : ℕ) (owed preliminary : Bool)
    → is_owed answered sent ≡ owed → IsBetween own answered sent
    → IsBetween own (answered_after preliminary (owed_where answered owed) answered) sent
between_passed own None sent owed true e is = is
between_passed own None sent owed false e is = omega arith
between_passed own (Some answered) sent true true e is = is
between_passed own (Some answered) sent true false e is =
    omega (arith, ltb-true answered sent e)
between_passed own (Some answered) sent false true e is = is
between_passed own (Some answered) sent false false e is = is

module _ (own : ℕ) (replies : List ReplyTo) (reply : ℕ × List Bytes) where
  abbrev with_passed : Option ℕ → Bool → List ReplyTo
  with_passed answered owed =
      record { to = among_all own (owed_where answered owed); reply = reply } ∷ replies

  exchanges-passed : (answered : Option ℕ) (sent : ℕ) (owed preliminary : Bool)
      → is_preliminary reply.0 ≡ preliminary → is_something (owed_where answered owed) ≡ true
      → IsBetween own answered sent → AreExchanges
      (client_exchange own (answered_after preliminary (owed_where answered owed) answered))
      replies
      → AreExchanges (client_exchange own answered) (with_passed answered owed)
  exchanges-passed None sent owed true e some is h = (refl, rw e h)
  exchanges-passed None sent owed false e some is h =
      let none : own + 0 ≡ 0 = omega (arith, is) in
      (refl, rw e (subst (λ place. AreExchanges (Command place) replies) none h))
  exchanges-passed (Some answered) sent true true e some is h = (refl, rw e h)
  exchanges-passed (Some answered) sent true false e some is h =
      let next : own + suc answered ≡ suc (own + answered) = omega arith in
      (refl, rw e (subst (λ place. AreExchanges (Command place) replies) next h))
  exchanges-passed (Some answered) sent false preliminary e some is h = absurd (false≢true some)

  complete-passed : (answered : Option ℕ) (owed preliminary : Bool)
      → is_preliminary reply.0 ≡ preliminary → is_something (owed_where answered owed) ≡ true
      → complete (answered_after preliminary (owed_where answered owed) answered) + finals replies
      ≡ complete answered + finals (with_passed answered owed)
  complete-passed None owed true e some = rw e (omega arith)
  complete-passed None owed false e some = rw e (omega arith)
  complete-passed (Some answered) true true e some = rw e (omega arith)
  complete-passed (Some answered) true false e some = rw e (omega arith)
  complete-passed (Some answered) false preliminary e some = absurd (false≢true some)

-- ---- an answer of the proxy

module _ (own : ℕ) (replies : List ReplyTo) (reply : ℕ × List Bytes)
    (final : is_preliminary reply.0 ≡ false) where
  abbrev pub with_answer : ℕ → List ReplyTo
  with_answer sent = record { to = Command (own + sent); reply = reply } ∷ replies

  pub exchanges-answered : (answered : Option ℕ) (sent : ℕ) → IsGreeted answered
      → sent - unwrap_or answered 0 ≡ 0 → IsBetween own answered sent
      → AreExchanges (client_exchange (suc own) answered) replies
      → AreExchanges (client_exchange own answered) (with_answer sent)
  exchanges-answered None sent greeted none is h = absurd greeted
  exchanges-answered (Some answered) sent greeted none is h =
      let same : own + sent ≡ own + answered = omega (arith, none, is) in
      let next : suc own + answered ≡ suc (own + answered) = omega arith in (
        ap Command same,
        rw final (subst (λ place. AreExchanges (Command place) replies) next h),
      )

  pub complete-answered : (sent : ℕ) → finals (with_answer sent) ≡ suc (finals replies)
  complete-answered sent = rw final refl

-- ---- all steps

-- one reply more of the server
module _ (own : ℕ) (before next : Dialogue) (taken : ReplyTo)
    (step : IsDialogueStep before (Took taken) next) (some : was_owed taken ≡ true) where
  abbrev was : Bool
  was = owed before next taken step

  abbrev begins : Bool
  begins = preliminary before next taken step

  pub now_between : IsBetween own before.answered before.sent
      → IsBetween own next.answered next.sent
  now_between is = subst (λ sent. IsBetween own next.answered sent)
      (sym (now_sent before next taken step))
      (subst (λ answered. IsBetween own answered before.sent)
      (sym (now_answered before next taken step))
      (between_passed own before.answered before.sent was begins refl is))

  is_some : is_something (owed_where before.answered was) ≡ true
  is_some = ap is_something (sym (is_to before next taken step)) ∙ some

  pub passed-exchanges : (replies : List ReplyTo) → IsBetween own before.answered before.sent
      → AreExchanges (client_exchange own next.answered) replies
      → AreExchanges (client_exchange own before.answered)
      (record { to = among_all own taken.to; reply = taken.reply } ∷ replies)
  passed-exchanges replies is h =
      subst (λ to. AreExchanges (client_exchange own before.answered)
      (record { to = among_all own to; reply = taken.reply } ∷ replies))
      (sym (is_to before next taken step))
      (exchanges-passed own replies taken.reply before.answered before.sent was begins refl is_some
      is (subst (λ answered. AreExchanges (client_exchange own answered) replies)
      (now_answered before next taken step) h))

  pub passed-complete : (replies : List ReplyTo)
      → complete next.answered + finals replies ≡ complete before.answered
      + finals (record { to = among_all own taken.to; reply = taken.reply } ∷ replies)
  passed-complete replies =
      ap (λ answered. complete answered + finals replies) (now_answered before next taken step)
      ∙ complete-passed own replies taken.reply before.answered was begins refl is_some
      ∙ ap (λ to. complete before.answered
      + finals (record { to = among_all own to; reply = taken.reply } ∷ replies))
      (sym (is_to before next taken step))

pub given-exchanges : (own : ℕ) (steps : List ForwardingStep) (before after : Dialogue)
    → IsBetween own before.answered before.sent → AreForwardingSteps before steps after
    → AreExchanges (client_exchange own before.answered)
    (replies_given own before.sent steps)
given-exchanges own [] before after is are = tt
given-exchanges own (Forwarded line ∷ steps) before after is (next, step, are) =
    subst (λ (d : Dialogue). AreExchanges (client_exchange own d.answered)
    (replies_given own d.sent steps)) step
    (given-exchanges own steps next after
    (subst (λ (d : Dialogue). IsBetween own d.answered d.sent) (sym step)
    (between_line own before.answered before.sent is)) are)
given-exchanges own (Passed taken ∷ steps) before after is (next, (step, some), are) =
    passed-exchanges own before next taken step some (replies_given own before.sent steps) is
    (subst (λ sent. AreExchanges (client_exchange own next.answered)
    (replies_given own sent steps)) (now_sent before next taken step)
    (given-exchanges own steps next after (now_between own before next taken step some is) are))
given-exchanges own (Answered reply ∷ steps) before after is
    (next, (greeted, none, final, same), are) =
    exchanges-answered own (replies_given (suc own) before.sent steps) reply final
    before.answered before.sent greeted none is
    (subst (λ (d : Dialogue). AreExchanges (client_exchange (suc own) d.answered)
    (replies_given (suc own) d.sent steps)) same
    (given-exchanges (suc own) steps next after
    (subst (λ (d : Dialogue). IsBetween (suc own) d.answered d.sent) (sym same)
    (between_more own before.answered before.sent greeted is)) are))

-- Finals are counted where they are: those of the server, and one for each line that was answered.
given-complete : (own : ℕ) (steps : List ForwardingStep) (before after : Dialogue)
    → AreForwardingSteps before steps after
    → complete after.answered + length (filter is_line steps) + before.sent
    ≡ complete before.answered + finals (replies_given own before.sent steps) + after.sent
given-complete own [] before after are =
    omega (
      arith,
      ap (λ (d : Dialogue). complete d.answered) are,
      ap (λ (d : Dialogue). d.sent) are,
    )
given-complete own (Forwarded line ∷ steps) before after (next, step, are) =
    let more = subst (λ (d : Dialogue).
    complete after.answered + length (filter is_line steps) + d.sent
    ≡ complete d.answered + finals (replies_given own d.sent steps) + after.sent) step
    (given-complete own steps next after are) in
    omega (arith, more)
given-complete own (Passed taken ∷ steps) before after (next, (step, some), are) =
    let more = subst (λ sent. complete after.answered + length (filter is_line steps) + sent
    ≡ complete next.answered + finals (replies_given own sent steps) + after.sent)
    (now_sent before next taken step) (given-complete own steps next after are) in
    omega (
      arith,
      more,
      passed-complete own before next taken step some (replies_given own before.sent steps),
    )
given-complete own (Answered reply ∷ steps) before after
    (next, (greeted, none, final, same), are) =
    let more = subst (λ (d : Dialogue).
    complete after.answered + length (filter is_line steps) + d.sent
    ≡ complete d.answered + finals (replies_given (suc own) d.sent steps) + after.sent) same
    (given-complete (suc own) steps next after are) in
    omega (
      arith,
      more,
      complete-answered own (replies_given (suc own) before.sent steps) reply final before.sent,
    )

-- No more lines have a final reply than were sent, at the end too.
within : (own : ℕ) (steps : List ForwardingStep) (before after : Dialogue)
    → IsBetween own before.answered before.sent → AreForwardingSteps before steps after
    → (end : ℕ) × IsBetween end after.answered after.sent
within own [] before after is are =
    (own, subst (λ (d : Dialogue). IsBetween own d.answered d.sent) (sym are) is)
within own (Forwarded line ∷ steps) before after is (next, step, are) =
    within own steps next after
    (subst (λ (d : Dialogue). IsBetween own d.answered d.sent) (sym step)
    (between_line own before.answered before.sent is)) are
within own (Passed taken ∷ steps) before after is (next, (step, some), are) =
    within own steps next after (now_between own before next taken step some is) are
within own (Answered reply ∷ steps) before after is
    (next, (greeted, none, final, same), are) =
    within (suc own) steps next after
    (subst (λ (d : Dialogue). IsBetween (suc own) d.answered d.sent) (sym same)
    (between_more own before.answered before.sent greeted is)) are

all_complete : (end answered_lines : ℕ) (answered : Option ℕ) (sent finals : ℕ)
    → IsGreeted answered → sent - unwrap_or answered 0 ≡ 0 → IsBetween end answered sent
    → complete answered + answered_lines + 0 ≡ finals + sent → finals ≡ suc answered_lines
all_complete end lines None sent finals greeted none is counted = absurd greeted
all_complete end lines (Some answered) sent finals greeted none is counted =
    omega (arith, none, is, counted)

-- Where none is owed, each line has its final reply.
module _ (start after : Dialogue) (steps : List ForwardingStep) (none_sent : start.sent ≡ 0)
    (none : start.answered ≡ None) where
  start_between : IsBetween 0 start.answered start.sent
  start_between = subst (λ answered. IsBetween 0 answered start.sent) (sym none) refl

  pub each_complete : AreForwardingSteps start steps after → IsGreeted after.answered
      → commands_owed after ≡ 0
      → finals (replies_given 0 start.sent steps) ≡ suc (length (filter is_line steps))
  each_complete are greeted none_owed =
      let w = within 0 steps start after start_between are in
      let c = given-complete 0 steps start after are in
      all_complete w.0 (length (filter is_line steps)) after.answered after.sent
      (finals (replies_given 0 start.sent steps)) greeted none_owed w.1
      (omega (arith, c, none_sent, ap complete none))
