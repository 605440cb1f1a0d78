-- Any calls of a proxy.
use Rattle.std.proofs.Common.{◌≡◌, ◌≤◌, ◌+◌, ◌-◌, ◌&&◌, ◌++◌, not, ℕ, suc, Bool, true, false, if◌then◌else◌, nat_lt, List, [], ◌∷◌, Option, Some, None, refl, sym, ap, subst, ◌∙◌, arith, unwrap_or}
use Rattle.std.proofs.lemmas.Bool.{false≢true, ltb-true, ltb-false}
use Rattle.std.specs.List.{AllByRecursion}
use Rattle.unftp_control_defs.specs.Bytes.{Bytes}
use Rattle.unftp_control_defs.specs.Turns.{is_preliminary}
use Rattle.unftp_control_client.specs.Dialogue.{after_command, after_final, after_reply, commands_owed, first_owed, next_to, owes_reply}
use Rattle.unftp_control_client.specs.ForwardingSteps.{IsGreeted, among_all}
use Rattle.unftp_control_client.specs.Order.{Answers, IsToTaken, IsWithin, OrderCall, Passes, Sends, Takes, after_call, after_calls, after_pass, answers_line, finals_owed, given_by, given_in, greeting_owed, is_full, lines_taken, may_answer, may_take, new_order, one_where, takes_line}
use Rattle.unftp_control_client.specs.Steps.{AreExchanges, ReplyTo, is_something}
use Rattle.unftp_control_client.specs.declared.dialogue.Dialogue.{Dialogue}
use Rattle.unftp_control_client.specs.declared.dialogue.To.{To}
use Rattle.unftp_control_client.specs.declared.dialogue.To.TheVariants.{Greeting, Command, Nothing}
use Rattle.unftp_control_client.specs.declared.order.Order.{Order}
use Rattle.unftp_control_client.proofs.ClientStepLemmas.{complete, sent-after_final}
use Rattle.unftp_control_client.proofs.ForwardingLemmas.{IsBetween, between_line, between_more, client_exchange, complete-answered, exchanges-answered, finals, now_between, passed-complete, passed-exchanges}

by_cases : (P : Bool → Type 0) (b : Bool) → (b ≡ true → P true) → (b ≡ false → P false) → P b
by_cases P true if_true if_false = if_true refl
by_cases P false if_true if_false = if_false refl

-- ---- what a call that is not refused says

both : (a b : Bool) → (a && b) ≡ true → (a ≡ true) × (b ≡ true)
both true b e = (refl, e)
both false b e = absurd (cc)

is_false : (a : Bool) → not a ≡ true → a ≡ false
is_false true e = absurd (cc)
is_false false e = refl

none_owed : (answered : Option ℕ) (sent : ℕ) (owed : Bool)
    → nat_lt (unwrap_or answered 0) sent ≡ owed
    → is_something (first_owed answered sent) ≡ false
    → IsGreeted answered × (sent - unwrap_or answered 0 ≡ 0)
none_owed None sent owed e none = absurd (cc)
none_owed (Some answered) sent true e none = absurd (false≢true (sym none ∙ rw e refl))
none_owed (Some answered) sent false e none = (tt, omega (arith, ltb-false answered sent e))

module _ (order : Order) (code : ℕ) (may : may_answer order code ≡ true) where
  is_taken : order.taken ≡ true
  is_taken = (both order.taken _ may).0

  others : (not (owes_reply order.dialogue) ≡ true) × (not (is_preliminary code) ≡ true)
  others = both (not (owes_reply order.dialogue)) _ (both order.taken _ may).1

  final : is_preliminary code ≡ false
  final = is_false (is_preliminary code) others.1

  none : IsGreeted order.dialogue.answered × (commands_owed order.dialogue ≡ 0)
  none = none_owed order.dialogue.answered order.dialogue.sent _ refl
      (is_false (owes_reply order.dialogue) others.0)

-- A reply that is not owed changes nothing of these.
kept-answered : (preliminary : Bool) (to : To) (d : Dialogue) → is_something to ≡ false
    → (if preliminary then d else after_final d to).answered ≡ d.answered
kept-answered preliminary Greeting d none = absurd (cc)
kept-answered preliminary (Command place) d none = absurd (cc)
kept-answered true Nothing d none = refl
kept-answered false Nothing d none = refl

module _ (d : Dialogue) (code : ℕ) where
  same_answered : owes_reply d ≡ false → (after_reply d code).answered ≡ d.answered
  same_answered none = kept-answered (is_preliminary code) (next_to d) d none

  same_sent : (after_reply d code).sent ≡ d.sent
  same_sent = sent-after_final (is_preliminary code) (next_to d) d

-- ---- one call

abbrev AreBetween : ℕ → Order → Type 0
AreBetween own order = IsBetween own order.dialogue.answered order.dialogue.sent

-- how many lines are answered, sent or taken
abbrev all_lines : ℕ → Order → ℕ
all_lines own order = own + order.dialogue.sent + one_where order.taken

-- how many are answered by the proxy after a call
abbrev own_next : ℕ → Order → OrderCall → ℕ
own_next own order call = if answers_line order call then suc own else own

abbrev with_taken : Bool → Order → Order
with_taken taken order = record order { taken = taken }

abbrev after_send : Bytes → Order → Order
after_send line order = record { dialogue = after_command line order.dialogue; taken = false }

module _ (own : ℕ) (order : Order) where
  abbrev d : Dialogue
  d = order.dialogue

  between_passed : (reply : ℕ × List Bytes) (owed : Bool) → owes_reply d ≡ owed
      → AreBetween own order → AreBetween own (after_pass order reply.0)
  between_passed reply true e is = now_between own d (after_reply d reply.0)
      (record { to = next_to d; reply = reply }) (refl, refl) e is
  between_passed reply false e is =
      subst (λ sent. IsBetween own (after_reply d reply.0).answered sent)
      (sym (same_sent d reply.0))
      (subst (λ answered. IsBetween own answered d.sent) (sym (same_answered d reply.0 e)) is)

  between_call : (call : OrderCall) → AreBetween own order
      → AreBetween (own_next own order call) (after_call order call)
  between_call Takes is =
      by_cases (λ may. AreBetween own (if may then with_taken true order else order))
      (may_take order) (λ e. is) (λ e. is)
  between_call (Sends line) is =
      by_cases (λ full. AreBetween own (if full then order else after_send line order))
      (is_full order) (λ e. is) (λ e. between_line own d.answered d.sent is)
  between_call (Passes reply) is = between_passed reply (owes_reply d) refl is
  between_call (Answers reply) is =
      by_cases (λ may. AreBetween (if may then suc own else own)
      (if may then with_taken false order else order)) (may_answer order reply.0)
      (λ e. between_more own d.answered d.sent (none order reply.0 e).0 is) (λ e. is)

  -- What is given comes first, and then the rest of the exchanges.
  exchanges_call : (call : OrderCall) (rest : List ReplyTo) → AreBetween own order
      → AreExchanges
      (client_exchange (own_next own order call) (after_call order call).dialogue.answered) rest
      → AreExchanges (client_exchange own d.answered) (given_in own order call ++ rest)
  exchanges_call Takes rest is h =
      by_cases (λ may. AreExchanges
      (client_exchange own (if may then with_taken true order else order).dialogue.answered) rest
      → AreExchanges (client_exchange own d.answered) rest)
      (may_take order) (λ e h. h) (λ e h. h) h
  exchanges_call (Sends line) rest is h =
      by_cases (λ full. AreExchanges
      (client_exchange own (if full then order else after_send line order).dialogue.answered) rest
      → AreExchanges (client_exchange own d.answered) rest)
      (is_full order) (λ e h. h) (λ e h. h) h
  exchanges_call (Passes reply) rest is h =
      let taken : ReplyTo = record { to = next_to d; reply = reply } in
      by_cases (λ owed. AreExchanges (client_exchange own d.answered)
      ((if owed then record { to = among_all own (next_to d); reply = reply } ∷ [] else [])
      ++ rest)) (owes_reply d)
      (λ e. passed-exchanges own d (after_reply d reply.0) taken (refl, refl) e rest is h)
      (λ e. subst (λ answered. AreExchanges (client_exchange own answered) rest)
      (same_answered d reply.0 e) h)
  exchanges_call (Answers reply) rest is h =
      by_cases (λ may. AreExchanges (client_exchange (if may then suc own else own)
      (if may then with_taken false order else order).dialogue.answered) rest
      → AreExchanges (client_exchange own d.answered)
      ((if may then record { to = Command (own + d.sent); reply = reply } ∷ [] else []) ++ rest))
      (may_answer order reply.0)
      (λ e h. exchanges-answered own rest reply (final order reply.0 e) d.answered d.sent
      (none order reply.0 e).0 (none order reply.0 e).1 is h)
      (λ e h. h) h

  lines_call : (call : OrderCall) → all_lines (own_next own order call) (after_call order call)
      ≡ all_lines own order + one_where (takes_line order call)
  lines_call Takes =
      by_cases (λ may. all_lines own (if may then with_taken true order else order)
      ≡ all_lines own order + one_where may) (may_take order)
      (λ e. omega (arith, ap one_where (is_false order.taken (both (not order.taken) _ e).0)))
      (λ e. omega arith)
  lines_call (Sends line) =
      by_cases (λ full. all_lines own (if full then order else after_send line order)
      ≡ all_lines own order + one_where (not full && not order.taken)) (is_full order)
      (λ e. omega arith)
      (λ e. by_cases (λ taken. own + suc d.sent + 0
      ≡ own + d.sent + one_where taken + one_where (not taken)) order.taken
      (λ e. omega arith) (λ e. omega arith))
  lines_call (Passes reply) = omega (arith, same_sent d reply.0)
  lines_call (Answers reply) =
      by_cases (λ may. all_lines (if may then suc own else own)
      (if may then with_taken false order else order) ≡ all_lines own order + 0)
      (may_answer order reply.0)
      (λ e. omega (arith, ap one_where (is_taken order reply.0 e)))
      (λ e. omega arith)

  finals_call : (call : OrderCall) (rest : List ReplyTo)
      → finals (given_in own order call ++ rest) + complete d.answered + own
      ≡ finals rest + complete (after_call order call).dialogue.answered
      + own_next own order call
  finals_call Takes rest =
      by_cases (λ may. finals rest + complete d.answered + own ≡ finals rest
      + complete (if may then with_taken true order else order).dialogue.answered + own)
      (may_take order) (λ e. refl) (λ e. refl)
  finals_call (Sends line) rest =
      by_cases (λ full. finals rest + complete d.answered + own ≡ finals rest
      + complete (if full then order else after_send line order).dialogue.answered + own)
      (is_full order) (λ e. refl) (λ e. refl)
  finals_call (Passes reply) rest =
      let taken : ReplyTo = record { to = next_to d; reply = reply } in
      by_cases (λ owed. finals
      ((if owed then record { to = among_all own (next_to d); reply = reply } ∷ [] else [])
      ++ rest) + complete d.answered + own
      ≡ finals rest + complete (after_reply d reply.0).answered + own) (owes_reply d)
      (λ e. omega (
        arith,
        passed-complete own d (after_reply d reply.0) taken (refl, refl) e rest,
      ))
      (λ e. omega (arith, ap complete (same_answered d reply.0 e)))
  finals_call (Answers reply) rest =
      by_cases (λ may. finals
      ((if may then record { to = Command (own + d.sent); reply = reply } ∷ [] else []) ++ rest)
      + complete d.answered + own ≡ finals rest
      + complete (if may then with_taken false order else order).dialogue.answered
      + (if may then suc own else own)) (may_answer order reply.0)
      (λ e. omega (arith, complete-answered own rest reply (final order reply.0 e) d.sent))
      (λ e. omega arith)

  -- No reply is given to a line that is not taken.
  within_passed : (lines : ℕ) (answered : Option ℕ) (sent : ℕ) (owed : Bool)
      → nat_lt (unwrap_or answered 0) sent ≡ owed → own + sent ≤ lines
      → is_something (first_owed answered sent) ≡ true
      → IsWithin lines (among_all own (first_owed answered sent))
  within_passed lines None sent owed e fits some = tt
  within_passed lines (Some answered) sent true e fits some =
      rw e (omega (arith, fits, ltb-true answered sent e))
  within_passed lines (Some answered) sent false e fits some =
      absurd (false≢true (sym (rw e refl) ∙ some))

  within_call : (call : OrderCall) (lines : ℕ) (rest : List ReplyTo) → all_lines own order ≤ lines
      → AllByRecursion (IsToTaken lines) rest
      → AllByRecursion (IsToTaken lines) (given_in own order call ++ rest)
  within_call Takes lines rest fits all = all
  within_call (Sends line) lines rest fits all = all
  within_call (Passes reply) lines rest fits all =
      by_cases (λ owed. AllByRecursion (IsToTaken lines)
      ((if owed then record { to = among_all own (next_to d); reply = reply } ∷ [] else [])
      ++ rest)) (owes_reply d)
      (λ e. (within_passed lines d.answered d.sent _ refl (omega (arith, fits)) e, all))
      (λ e. all)
  within_call (Answers reply) lines rest fits all =
      by_cases (λ may. AllByRecursion (IsToTaken lines)
      ((if may then record { to = Command (own + d.sent); reply = reply } ∷ [] else []) ++ rest))
      (may_answer order reply.0)
      (λ e. (omega (arith, fits, ap one_where (is_taken order reply.0 e)), all))
      (λ e. all)

-- ---- all calls

abbrev own_after : ℕ → Order → List OrderCall → ℕ
own_after own order [] = own
own_after own order (call ∷ calls) =
    own_after (own_next own order call) (after_call order call) calls

pub given-exchanges : (calls : List OrderCall) (own : ℕ) (order : Order) → AreBetween own order
    → AreExchanges (client_exchange own order.dialogue.answered) (given_by own order calls)
given-exchanges [] own order is = tt
given-exchanges (call ∷ calls) own order is =
    exchanges_call own order call
    (given_by (own_next own order call) (after_call order call) calls) is
    (given-exchanges calls (own_next own order call) (after_call order call)
    (between_call own order call is))

between_after : (calls : List OrderCall) (own : ℕ) (order : Order) → AreBetween own order
    → AreBetween (own_after own order calls) (after_calls order calls)
between_after [] own order is = is
between_after (call ∷ calls) own order is =
    between_after calls (own_next own order call) (after_call order call)
    (between_call own order call is)

lines-counted : (calls : List OrderCall) (own : ℕ) (order : Order)
    → all_lines (own_after own order calls) (after_calls order calls)
    ≡ all_lines own order + lines_taken order calls
lines-counted [] own order = omega arith
lines-counted (call ∷ calls) own order =
    omega (
      arith,
      lines_call own order call,
      lines-counted calls (own_next own order call) (after_call order call),
    )

finals-counted : (calls : List OrderCall) (own : ℕ) (order : Order)
    → finals (given_by own order calls) + complete order.dialogue.answered + own
    ≡ complete (after_calls order calls).dialogue.answered + own_after own order calls
finals-counted [] own order = omega arith
finals-counted (call ∷ calls) own order =
    omega (
      arith,
      finals_call own order call
          (given_by (own_next own order call) (after_call order call) calls),
      finals-counted calls (own_next own order call) (after_call order call),
    )

pub given-taken : (calls : List OrderCall) (own : ℕ) (order : Order) (lines : ℕ)
    → lines ≡ all_lines own order + lines_taken order calls
    → AllByRecursion (IsToTaken lines) (given_by own order calls)
given-taken [] own order lines all = tt
given-taken (call ∷ calls) own order lines all =
    within_call own order call lines
    (given_by (own_next own order call) (after_call order call) calls) (omega (arith, all))
    (given-taken calls (own_next own order call) (after_call order call) lines
    (omega (arith, all, lines_call own order call)))

all_owed : (own lines finals : ℕ) (answered : Option ℕ) (sent taken : ℕ)
    → IsBetween own answered sent → own + sent + taken ≡ lines
    → finals ≡ complete answered + own
    → finals + (sent - unwrap_or answered 0 + greeting_owed answered + taken) ≡ suc lines
all_owed own lines finals None sent taken is counted given = omega (arith, is, counted, given)
all_owed own lines finals (Some answered) sent taken is counted given =
    omega (arith, is, counted, given)

pub finals-owed : (calls : List OrderCall)
    → finals (given_by 0 new_order calls) + finals_owed (after_calls new_order calls)
    ≡ suc (lines_taken new_order calls)
finals-owed calls =
    let after = after_calls new_order calls in
    all_owed (own_after 0 new_order calls) (lines_taken new_order calls)
    (finals (given_by 0 new_order calls)) after.dialogue.answered after.dialogue.sent
    (one_where after.taken) (between_after calls 0 new_order refl)
    (omega (arith, lines-counted calls 0 new_order))
    (omega (arith, finals-counted calls 0 new_order))
