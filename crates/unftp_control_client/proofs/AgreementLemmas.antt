-- An agreement to begin TLS, along a run of a client.
use Rattle.std.proofs.Common.{◌≡◌, ◌&&◌, ◌==◌, ℕ, suc, Bool, true, false, if◌then◌else◌, List, [], ◌∷◌, ◌++◌, length, Option, Some, None, ◌-◌, unwrap_or, refl, sym, ap, subst, ◌∙◌, arith, eqb-true, append_assoc, append-nil, length-append}
use Rattle.unftp_control_defs.specs.Bytes.{Bytes}
use Rattle.unftp_control_defs.specs.Turns.{is_preliminary}
use Rattle.unftp_control_client.specs.Dialogue.{agrees, after_final, after_command, after_reply, asks_for_tls, commands_owed, is_place, next_to}
use Rattle.unftp_control_client.specs.Steps.{AreDialogueSteps, ClientStep, EndsInAgreement, ReplyTo, SentLine, Received, Took, lines_sent, replies_taken}
use Rattle.unftp_control_client.specs.declared.dialogue.Dialogue.{Dialogue}
use Rattle.unftp_control_client.specs.declared.dialogue.To.{To}
use Rattle.unftp_control_client.specs.declared.dialogue.To.TheVariants.{Greeting, Command, Nothing}
use Rattle.unftp_control_client.proofs.ClientStepLemmas.{answered_after, answered-after_final, sent-after_final}

-- of these lines the one at this place asks for TLS
record AsksAt (lines : List Bytes) (place : ℕ) : Type 0 where
  before : List Bytes
  line : Bytes
  later : List Bytes
  whole : lines ≡ before ++ line ∷ later
  is_at : length before ≡ place
  asks : asks_for_tls line ≡ true

-- The last reply is a 234 to the line at a place, which asks for TLS.
record Agreed (lines : List Bytes) (replies : List ReplyTo) (d : Dialogue) : Type 0 where
  place : ℕ
  asks : AsksAt lines place
  earlier : List ReplyTo
  texts : List Bytes
  taken : replies ≡ earlier ++ record { to = Command place; reply = (234, texts) } ∷ []
  answered : d.answered ≡ Some (suc place)

-- what holds of a dialogue in which these lines were sent and these replies taken
record Kept (lines : List Bytes) (replies : List ReplyTo) (d : Dialogue) : Type 0 where
  count : d.sent ≡ length lines
  asked : (place : ℕ) → d.asked ≡ Some place → AsksAt lines place
  agreed : d.agreed ≡ true → Agreed lines replies d

AsksAt-more : (lines more : List Bytes) (place : ℕ) → AsksAt lines place
    → AsksAt (lines ++ more) place
AsksAt-more lines more place h = record {
  before = h.before;
  line = h.line;
  later = h.later ++ more;
  whole = ap (λ lines. lines ++ more) h.whole ∙ append_assoc h.before (h.line ∷ h.later) more;
  is_at = h.is_at;
  asks = h.asks;
}

-- ---- a line is sent

module _ (lines : List Bytes) (replies : List ReplyTo) (d : Dialogue) (kept : Kept lines replies d)
    (line : Bytes) where
  asked_by : (test : Bool) → asks_for_tls line ≡ test → (place : ℕ)
      → (if test then Some d.sent else d.asked) ≡ Some place → AsksAt (lines ++ line ∷ []) place
  asked_by true asks place e = record {
    before = lines;
    line = line;
    later = [];
    whole = refl;
    is_at = let same : d.sent ≡ place = cc in sym kept.count ∙ same;
    asks = asks;
  }
  asked_by false asks place e = AsksAt-more lines (line ∷ []) place (kept.asked place e)

  Kept-sent : Kept (lines ++ line ∷ []) replies (after_command line d)
  Kept-sent = record {
    count = omega (arith, kept.count, length-append lines (line ∷ []));
    asked = asked_by (asks_for_tls line) refl;
    agreed = λ e. let a = kept.agreed e in record {
      place = a.place;
      asks = AsksAt-more lines (line ∷ []) a.place a.asks;
      earlier = a.earlier;
      texts = a.texts;
      taken = a.taken;
      answered = a.answered;
    };
  }

-- ---- a reply is taken

asked-after_final : (preliminary : Bool) (to : To) (d : Dialogue)
    → (if preliminary then d else after_final d to).asked ≡ d.asked
asked-after_final true to d = refl
asked-after_final false Greeting d = refl
asked-after_final false (Command place) d = refl
asked-after_final false Nothing d = refl

record IsAgreement (to : To) (asked : Option ℕ) (code : ℕ) : Type 0 where
  place : ℕ
  is_to : to ≡ Command place
  is_code : code ≡ 234
  is_asked : asked ≡ Some place

both : (a b : Bool) → (a && b) ≡ true → (a ≡ true) × (b ≡ true)
both true b e = (refl, e)
both false b e = absurd (cc)

asked_there : (place : ℕ) (asked : Option ℕ) → is_place place asked ≡ true → asked ≡ Some place
asked_there place None e = absurd (cc)
asked_there place (Some at) e = ap Some (eqb-true at place e)

agreed_to : (to : To) (asked : Option ℕ) (code : ℕ) → agrees to asked code ≡ true
    → IsAgreement to asked code
agreed_to Greeting asked code e = absurd (cc)
agreed_to (Command place) asked code e =
    let h = both (code == 234) (is_place place asked) e in record {
      place = place;
      is_to = refl;
      is_code = eqb-true code 234 h.0;
      is_asked = asked_there place asked h.1;
    }
agreed_to Nothing asked code e = absurd (cc)

module _ (lines : List Bytes) (replies : List ReplyTo) (d : Dialogue) (kept : Kept lines replies d)
    (taken : ReplyTo) (is_to : taken.to ≡ next_to d) where
  Kept-took : Kept lines (replies ++ taken ∷ []) (after_reply d taken.reply.0)
  Kept-took = record {
    count = sent-after_final (is_preliminary taken.reply.0) (next_to d) d ∙ kept.count;
    asked = λ place e. kept.asked place
        (sym (asked-after_final (is_preliminary taken.reply.0) (next_to d) d) ∙ e);
    agreed = λ e. let is = agreed_to (next_to d) d.asked taken.reply.0 e in
        let to = is.is_to in
        let code = is.is_code in
        record {
          place = is.place;
          asks = kept.asked is.place is.is_asked;
          earlier = replies;
          texts = taken.reply.1;
          taken = λ i. replies
              ++ record { to = (is_to ∙ to) i; reply = (code i, taken.reply.1) } ∷ [];
          answered = answered-after_final (is_preliminary taken.reply.0) (next_to d) d
              ∙ ap (λ code. answered_after (is_preliminary code) (next_to d) d.answered) code
              ∙ ap (λ to. answered_after false to d.answered) to;
        };
  }

-- ---- all steps

steps-kept : (steps : List ClientStep) (before after : Dialogue) (lines : List Bytes)
    (replies : List ReplyTo) → Kept lines replies before → AreDialogueSteps before steps after
    → Kept (lines ++ lines_sent steps) (replies ++ replies_taken steps) after
steps-kept [] before after lines replies kept are =
    subst (λ lines. Kept lines (replies ++ []) after) (sym (append-nil lines))
    (subst (λ replies. Kept lines replies after) (sym (append-nil replies))
    (subst (λ d. Kept lines replies d) (sym are) kept))
steps-kept (SentLine line ∷ steps) before after lines replies kept (next, step, are) =
    subst (λ lines. Kept lines (replies ++ replies_taken steps) after)
    (append_assoc lines (line ∷ []) (lines_sent steps))
    (steps-kept steps next after (lines ++ line ∷ []) replies
    (subst (λ d. Kept (lines ++ line ∷ []) replies d) (sym step)
    (Kept-sent lines replies before kept line)) are)
steps-kept (Received piece ∷ steps) before after lines replies kept (next, step, are) =
    steps-kept steps next after lines replies
    (subst (λ d. Kept lines replies d) (sym step) kept) are
steps-kept (Took taken ∷ steps) before after lines replies kept (next, step, are) =
    subst (λ replies. Kept (lines ++ lines_sent steps) replies after)
    (append_assoc replies (taken ∷ []) (replies_taken steps))
    (steps-kept steps next after lines (replies ++ taken ∷ [])
    (subst (λ d. Kept lines (replies ++ taken ∷ []) d) (sym step.1)
    (Kept-took lines replies before kept taken step.0)) are)

none_later : (later : List Bytes) → length later ≡ 0 → later ≡ []
none_later [] e = refl
none_later (line ∷ later) e = absurd (omega (arith, e))

pub ends_in_agreement : (steps : List ClientStep) (start after : Dialogue)
    → start.sent ≡ 0 → start.asked ≡ None → start.agreed ≡ false
    → AreDialogueSteps start steps after
    → after.agreed ≡ true → commands_owed after ≡ 0 → EndsInAgreement steps
ends_in_agreement steps start after none_sent none_asked not_agreed are agreed none_owed =
    let first : Kept [] [] start = record {
      count = none_sent;
      asked = λ place e. absurd (cc);
      agreed = λ e. absurd (cc);
    } in
    let kept = steps-kept steps start after [] [] first are in
    let a = kept.agreed agreed in
    let asks = a.asks in
    let owed = ap (λ answered. after.sent - unwrap_or answered 0) a.answered in
    let none : asks.later ≡ [] = none_later asks.later (omega (
      arith,
      none_owed,
      owed,
      kept.count,
      ap length asks.whole,
      length-append asks.before (asks.line ∷ asks.later),
      asks.is_at,
    )) in
    record {
      lines = asks.before;
      line = asks.line;
      sent = asks.whole ∙ ap (λ later. asks.before ++ asks.line ∷ later) none;
      asks = asks.asks;
      replies = a.earlier;
      texts = a.texts;
      taken = subst (λ place. replies_taken steps
          ≡ a.earlier ++ record { to = Command place; reply = (234, a.texts) } ∷ [])
          (sym asks.is_at) a.taken;
    }
