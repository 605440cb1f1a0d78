-- The runs of a client.
use Rattle.std.proofs.Common.{◌≡◌, ◌<◌, ◌≤◌, ◌+◌, ℕ, suc, Bool, true, false, if◌then◌else◌, nat_lt, List, [], ◌∷◌, ◌++◌, length, Option, Some, None, refl, sym, ap, subst, ◌∙◌, arith}
use Rattle.std.proofs.lemmas.Bool.{ltb-true, ltb-false}
use Rattle.std.specs.List.{filter}
use Rattle.unftp_control_defs.specs.Bytes.{Bytes}
use Rattle.unftp_control_defs.specs.TakingSteps.{AreTakingSteps, TakesReply}
use Rattle.unftp_control_defs.specs.Turns.{is_preliminary}
use Rattle.unftp_control_client.specs.Dialogue.{after_command, after_final, after_reply, first_owed, next_to}
use Rattle.unftp_control_client.specs.Steps.{AreDialogueSteps, AreExchanges, AreClientSteps, ClientStep, IsDialogueStep, ReplyTo, SentLine, Received, Took, lines_sent, decoder_steps, is_final, replies_owed, replies_taken, was_owed}
use Rattle.unftp_control_client.specs.declared.Client.{Client}
use Rattle.unftp_control_client.specs.declared.dialogue.Dialogue.{Dialogue}
use Rattle.unftp_control_client.specs.declared.dialogue.To.{To}
use Rattle.unftp_control_client.specs.declared.dialogue.To.TheVariants.{Greeting, Command, Nothing}

-- ---- what one reply changes

-- the exchange that is not complete
abbrev pub open_exchange : Option ℕ → To
open_exchange None = Greeting
open_exchange (Some answered) = Command answered

-- how many exchanges are complete
abbrev pub complete : Option ℕ → ℕ
complete None = 0
complete (Some answered) = suc answered

-- how many commands have their final reply after a reply to this, which may be a preliminary one
abbrev pub answered_after : Bool → To → Option ℕ → Option ℕ
answered_after true to answered = answered
answered_after false Greeting answered = Some 0
answered_after false (Command place) answered = Some (suc place)
answered_after false Nothing answered = answered

pub answered-after_final : (preliminary : Bool) (to : To) (d : Dialogue)
    → (if preliminary then d else after_final d to).answered
    ≡ answered_after preliminary to d.answered
answered-after_final true to d = refl
answered-after_final false Greeting d = refl
answered-after_final false (Command place) d = refl
answered-after_final false Nothing d = refl

pub sent-after_final : (preliminary : Bool) (to : To) (d : Dialogue)
    → (if preliminary then d else after_final d to).sent ≡ d.sent
sent-after_final true to d = refl
sent-after_final false Greeting d = refl
sent-after_final false (Command place) d = refl
sent-after_final false Nothing d = refl

-- what the next reply is to, where the test says whether a command is owed one
abbrev pub owed_where : Option ℕ → Bool → To
owed_where None owed = Greeting
owed_where (Some answered) owed = if owed then Command answered else Nothing

abbrev pub is_owed : Option ℕ → ℕ → Bool
is_owed None sent = true
is_owed (Some answered) sent = nat_lt answered sent

first-owed : (answered : Option ℕ) (sent : ℕ)
    → first_owed answered sent ≡ owed_where answered (is_owed answered sent)
first-owed None sent = refl
first-owed (Some answered) sent = refl

module _ (replies : List ReplyTo) (reply : ℕ × List Bytes) where
  abbrev with_next : Option ℕ → Bool → List ReplyTo
  with_next answered owed =
      filter was_owed (record { to = owed_where answered owed; reply = reply } ∷ replies)

  exchanges-took : (answered : Option ℕ) (owed preliminary : Bool)
      → is_preliminary reply.0 ≡ preliminary
      → AreExchanges
      (open_exchange (answered_after preliminary (owed_where answered owed) answered))
      (filter was_owed replies)
      → AreExchanges (open_exchange answered) (with_next answered owed)
  exchanges-took None owed true e h = (refl, rw e h)
  exchanges-took None owed false e h = (refl, rw e h)
  exchanges-took (Some answered) true true e h = (refl, rw e h)
  exchanges-took (Some answered) true false e h = (refl, rw e h)
  exchanges-took (Some answered) false true e h = h
  exchanges-took (Some answered) false false e h = h

  complete-took : (answered : Option ℕ) (owed preliminary : Bool)
      → is_preliminary reply.0 ≡ preliminary
      → complete (answered_after preliminary (owed_where answered owed) answered)
      + length (filter is_final (filter was_owed replies))
      ≡ complete answered + length (filter is_final (with_next answered owed))
  complete-took None owed true e = rw e (omega arith)
  complete-took None owed false e = rw e (omega arith)
  complete-took (Some answered) true true e = rw e (omega arith)
  complete-took (Some answered) true false e = rw e (omega arith)
  complete-took (Some answered) false true e = refl
  complete-took (Some answered) false false e = refl

-- a reply that is taken
module _ (d next : Dialogue) (taken : ReplyTo) (step : IsDialogueStep d (Took taken) next) where
  abbrev pub owed : Bool
  owed = is_owed d.answered d.sent

  abbrev pub preliminary : Bool
  preliminary = is_preliminary taken.reply.0

  pub is_to : taken.to ≡ owed_where d.answered owed
  is_to = step.0 ∙ first-owed d.answered d.sent

  pub now_answered : next.answered
      ≡ answered_after preliminary (owed_where d.answered owed) d.answered
  now_answered = ap (λ (d : Dialogue). d.answered) step.1
      ∙ answered-after_final preliminary (next_to d) d
      ∙ ap (λ to. answered_after preliminary to d.answered) (first-owed d.answered d.sent)

  pub now_sent : next.sent ≡ d.sent
  now_sent = ap (λ (d : Dialogue). d.sent) step.1 ∙ sent-after_final preliminary (next_to d) d

  took-exchanges : (replies : List ReplyTo)
      → AreExchanges (open_exchange next.answered) (filter was_owed replies)
      → AreExchanges (open_exchange d.answered) (filter was_owed (taken ∷ replies))
  took-exchanges replies h =
      subst (λ to. AreExchanges (open_exchange d.answered)
      (filter was_owed (record { to = to; reply = taken.reply } ∷ replies))) (sym is_to)
      (exchanges-took replies taken.reply d.answered owed preliminary refl
      (subst (λ answered. AreExchanges (open_exchange answered) (filter was_owed replies))
      now_answered h))

  took-complete : (replies : List ReplyTo)
      → complete next.answered + length (filter is_final (filter was_owed replies))
      ≡ complete d.answered + length (filter is_final (filter was_owed (taken ∷ replies)))
  took-complete replies =
      ap (λ answered. complete answered + length (filter is_final (filter was_owed replies)))
      now_answered
      ∙ complete-took replies taken.reply d.answered owed preliminary refl
      ∙ ap (λ to. complete d.answered + length (filter is_final
      (filter was_owed (record { to = to; reply = taken.reply } ∷ replies)))) (sym is_to)

-- ---- all steps

pub dialogue-exchanges : (steps : List ClientStep) (before after : Dialogue)
    → AreDialogueSteps before steps after
    → AreExchanges (open_exchange before.answered) (replies_owed steps)
dialogue-exchanges [] before after are = tt
dialogue-exchanges (SentLine line ∷ steps) before after (next, step, are) =
    subst (λ (d : Dialogue). AreExchanges (open_exchange d.answered) (replies_owed steps)) step
    (dialogue-exchanges steps next after are)
dialogue-exchanges (Received piece ∷ steps) before after (next, step, are) =
    subst (λ (d : Dialogue). AreExchanges (open_exchange d.answered) (replies_owed steps)) step
    (dialogue-exchanges steps next after are)
dialogue-exchanges (Took taken ∷ steps) before after (next, step, are) =
    took-exchanges before next taken step (replies_taken steps)
    (dialogue-exchanges steps next after are)

dialogue-sent : (steps : List ClientStep) (before after : Dialogue)
    → AreDialogueSteps before steps after
    → after.sent ≡ before.sent + length (lines_sent steps)
dialogue-sent [] before after are = omega (arith, ap (λ (d : Dialogue). d.sent) are)
dialogue-sent (SentLine line ∷ steps) before after (next, step, are) =
    omega (arith, ap (λ (d : Dialogue). d.sent) step, dialogue-sent steps next after are)
dialogue-sent (Received piece ∷ steps) before after (next, step, are) =
    omega (arith, ap (λ (d : Dialogue). d.sent) step, dialogue-sent steps next after are)
dialogue-sent (Took taken ∷ steps) before after (next, step, are) =
    omega (arith, now_sent before next taken step, dialogue-sent steps next after are)

dialogue-complete : (steps : List ClientStep) (before after : Dialogue)
    → AreDialogueSteps before steps after
    → complete after.answered
    ≡ complete before.answered + length (filter is_final (replies_owed steps))
dialogue-complete [] before after are =
    omega (arith, ap (λ (d : Dialogue). complete d.answered) are)
dialogue-complete (SentLine line ∷ steps) before after (next, step, are) =
    omega (
      arith,
      ap (λ (d : Dialogue). complete d.answered) step,
      dialogue-complete steps next after are,
    )
dialogue-complete (Received piece ∷ steps) before after (next, step, are) =
    omega (
      arith,
      ap (λ (d : Dialogue). complete d.answered) step,
      dialogue-complete steps next after are,
    )
dialogue-complete (Took taken ∷ steps) before after (next, step, are) =
    dialogue-complete steps next after are
    ∙ took-complete before next taken step (replies_taken steps)

-- Steps of a client are steps of its dialogue.
pub steps-dialogue : (steps : List ClientStep) (before after : Client)
    → AreClientSteps before steps after → AreDialogueSteps before.dialogue steps after.dialogue
steps-dialogue [] before after are = are.0
steps-dialogue (step ∷ steps) before after (next, is, are) =
    (next.dialogue, is.0, steps-dialogue steps next after are)

pub steps-exchanges : (steps : List ClientStep) (before after : Client)
    → AreClientSteps before steps after
    → AreExchanges (open_exchange before.dialogue.answered) (replies_owed steps)
steps-exchanges steps before after are = dialogue-exchanges steps before.dialogue after.dialogue
    (steps-dialogue steps before after are)

pub steps-sent : (steps : List ClientStep) (before after : Client)
    → AreClientSteps before steps after
    → after.dialogue.sent ≡ before.dialogue.sent + length (lines_sent steps)
steps-sent steps before after are = dialogue-sent steps before.dialogue after.dialogue
    (steps-dialogue steps before after are)

pub steps-taken : (steps : List ClientStep) (before after : Client)
    → AreClientSteps before steps after
    → AreTakingSteps TakesReply before.replies.bytes (decoder_steps steps) after.replies.bytes
steps-taken [] before after are = are.1
steps-taken (SentLine line ∷ steps) before after (next, step, are) =
    subst (λ bytes. AreTakingSteps TakesReply bytes (decoder_steps steps) after.replies.bytes)
    step.1 (steps-taken steps next after are)
steps-taken (Received piece ∷ steps) before after (next, step, are) =
    subst (λ bytes. AreTakingSteps TakesReply bytes (decoder_steps steps) after.replies.bytes)
    step.1 (steps-taken steps next after are)
steps-taken (Took taken ∷ steps) before after (next, step, are) =
    (next.replies.bytes, step.1, steps-taken steps next after are)

-- ---- steps after some others

-- those of a client that is as another
from_same : (steps : List ClientStep) (before same after : Client)
    → same.dialogue ≡ before.dialogue → same.replies.bytes ≡ before.replies.bytes
    → AreClientSteps same steps after → AreClientSteps before steps after
from_same [] before same after d b are = (are.0 ∙ d, are.1 ∙ b)
from_same (SentLine line ∷ steps) before same after d b (next, step, are) =
    (next, (step.0 ∙ ap (after_command line) d, step.1 ∙ b), are)
from_same (Received piece ∷ steps) before same after d b (next, step, are) =
    (next, (step.0 ∙ d, step.1 ∙ ap (λ bytes. bytes ++ piece) b), are)
from_same (Took taken ∷ steps) before same after d b (next, (step, takes), are) = (
  next,
  (
    (step.0 ∙ ap next_to d, step.1 ∙ ap (λ d. after_reply d taken.reply.0) d),
    subst (λ bytes. TakesReply bytes taken.reply next.replies.bytes) b takes,
  ),
  are,
)

pub steps-append : (first later : List ClientStep) (before middle after : Client)
    → AreClientSteps before first middle → AreClientSteps middle later after
    → AreClientSteps before (first ++ later) after
steps-append [] later before middle after are more =
    from_same later before middle after are.0 are.1 more
steps-append (step ∷ first) later before middle after (next, is, are) more =
    (next, is, steps-append first later next middle after are more)

split : (first steps : List ClientStep) (before after : Dialogue)
    → AreDialogueSteps before (first ++ steps) after
    → (middle : Dialogue) × AreDialogueSteps before first middle
    × AreDialogueSteps middle steps after
split [] steps before after are = (before, refl, are)
split (step ∷ first) steps before after (next, is, are) =
    let s = split first steps next after are in (s.0, (next, is, s.1), s.2)

asked : (answered sent place : ℕ) (owed : Bool) → nat_lt answered sent ≡ owed
    → Command place ≡ (if owed then Command answered else Nothing) → place < sent
asked answered sent place true e to =
    let same : place ≡ answered = cc in omega (arith, ltb-true answered sent e)
asked answered sent place false e to = absurd (cc)

asked_of : (answered : Option ℕ) (sent place : ℕ) → Command place ≡ first_owed answered sent
    → place < sent
asked_of None sent place to = absurd (cc)
asked_of (Some answered) sent place to =
    asked answered sent place (nat_lt answered sent) refl to

unasked : (answered sent : ℕ) (owed : Bool) → nat_lt answered sent ≡ owed
    → Nothing ≡ (if owed then Command answered else Nothing) → sent ≤ answered
unasked answered sent true e to = absurd (cc)
unasked answered sent false e to = ltb-false answered sent e

unasked_of : (answered : Option ℕ) (sent : ℕ) → Nothing ≡ first_owed answered sent
    → suc sent ≤ complete answered
unasked_of None sent to = absurd (cc)
unasked_of (Some answered) sent to =
    omega (arith, unasked answered sent (nat_lt answered sent) refl to)

module _ (start after : Dialogue) (before later : List ClientStep) (reply : ℕ × List Bytes)
    (none_sent : start.sent ≡ 0) (none : start.answered ≡ None) where
  pub sent_before : (place : ℕ) → AreDialogueSteps start
      (before ++ Took (record { to = Command place; reply = reply }) ∷ later) after
      → place < length (lines_sent before)
  sent_before place are =
      let s = split before (Took (record { to = Command place; reply = reply }) ∷ later) start after
      are in
      omega (
        arith,
        none_sent,
        dialogue-sent before start s.0 s.1,
        asked_of s.0.answered s.0.sent place s.2.1.0,
      )

  pub none_owed : AreDialogueSteps start
      (before ++ Took (record { to = Nothing; reply = reply }) ∷ later) after
      → suc (length (lines_sent before)) ≤ length (filter is_final (replies_owed before))
  none_owed are =
      let s = split before (Took (record { to = Nothing; reply = reply }) ∷ later) start after
      are in
      omega (
        arith,
        none_sent,
        ap complete none,
        dialogue-sent before start s.0 s.1,
        dialogue-complete before start s.0 s.1,
        unasked_of s.0.answered s.0.sent s.2.1.0,
      )
