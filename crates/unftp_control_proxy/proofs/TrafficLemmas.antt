-- What passes a proxy in one call after the other passes in all.
use Rattle.std.proofs.Common.{◌≡◌, suc, List, [], ◌∷◌, ◌++◌, length, map, None, refl, sym, ap, subst, ◌∙◌, append_assoc, append-nil, arith}
use Rattle.std.specs.List.{AllByRecursion, concat, filter}
use Rattle.std.proofs.lemmas.Grind.{flat_map-append}
use Rattle.std.proofs.lemmas.List.{map-append}
use Rattle.std.proofs.lemmas.List.Elements.{filter_map-append}
use Rattle.std.proofs.lemmas.List.Folds.{concat-append}
use Rattle.unftp_control_defs.specs.Bytes.{Bytes}
use Rattle.unftp_control_defs.specs.Events.{event_for, event_of, events}
use Rattle.unftp_control_defs.specs.Lines.{IsLine, lines_of}
use Rattle.unftp_control_defs.proofs.LineLemmas.{lines_of-concat}
use Rattle.unftp_control_client.specs.Dialogue.{new_dialogue, commands_owed}
use Rattle.unftp_control_client.specs.ForwardingSteps.{AreForwardingSteps, ForwardingStep, IsGreeted, is_line}
use Rattle.unftp_control_client.specs.Steps.{AreExchanges, is_final}
use Rattle.unftp_control_client.specs.declared.dialogue.Dialogue.{Dialogue}
use Rattle.unftp_control_client.specs.declared.dialogue.To.TheVariants.{Greeting}
use Rattle.unftp_control_client.proofs.ForwardingLemmas.{each_complete, given-exchanges}
use Rattle.unftp_control_proxy.specs.ProxyCalls.{AnsweredBy, Fate, ProxyState, SentAs, new_proxy}
use Rattle.unftp_control_proxy.specs.Traffic.{AreAsTheyCame, ChangesNothing, DecidedLine, GivesOwn, GivesReply, IsDecidedLine, IsPassedReply, IsSingle, IsTraffic, KeepsLine, SendsLine, ProxyStep, Traffic, bytes_that_came, client_lines, client_replies, fates_in, fates_of, fate_by_step, forwarding_step, forwarding_steps, given_by_step, given_in, held_fate, joined_traffic, no_traffic, passed_by_step, passed_in, all_sent, sent_for}
use Rattle.unftp_control_proxy.specs.declared.proxy.Limits.{Limits}

-- ---- one after the other

pub all-append : {A : Type 0} (P : A → Type 0) (first later : List A) → AllByRecursion P first
    → AllByRecursion P later → AllByRecursion P (first ++ later)
all-append P [] later all more = more
all-append P (x ∷ first) later all more = (all.0, all-append P first later all.1 more)

-- what comes is appended, and what is taken is taken from the start
taken_in_turn : {A : Type 0} (before came taken middle more next later : List A)
    → before ++ came ≡ taken ++ middle → middle ++ more ≡ next ++ later
    → before ++ (came ++ more) ≡ (taken ++ next) ++ later
taken_in_turn before came taken middle more next later first second =
    sym (append_assoc before came more)
    ∙ ap (λ all. all ++ more) first
    ∙ append_assoc taken middle more
    ∙ ap (λ rest. taken ++ rest) second
    ∙ sym (append_assoc taken next later)

steps-in-turn : (first later : List ForwardingStep) (before middle after : Dialogue)
    → AreForwardingSteps before first middle → AreForwardingSteps middle later after
    → AreForwardingSteps before (first ++ later) after
steps-in-turn [] later before middle after same more =
    subst (λ dialogue. AreForwardingSteps dialogue later after) same more
steps-in-turn (step ∷ first) later before middle after (next, one, are) more =
    (next, one, steps-in-turn first later next middle after are more)

pub nothing : (proxy : ProxyState) → IsTraffic proxy no_traffic proxy
nothing proxy = record {
  client = append-nil proxy.client.bytes;
  lines = tt;
  server = append-nil proxy.server.bytes;
  replies = tt;
  to_server = refl;
  to_client = refl;
  fates = append-nil (held_fate proxy.answer);
  steps = refl;
  bounded = omega arith;
  limits = refl;
  line_limit = refl;
}

module _ {before middle later : ProxyState} {first second : Traffic}
    (one : IsTraffic before first middle) (two : IsTraffic middle second later) where
  passed_is : passed_in (first.steps ++ second.steps)
      ≡ passed_in first.steps ++ passed_in second.steps
  passed_is = filter_map-append passed_by_step first.steps second.steps

  pub in_turn : IsTraffic before (joined_traffic first second) later
  in_turn = record {
    client = taken_in_turn before.client.bytes first.from_client (concat (client_lines first.lines))
        middle.client.bytes second.from_client (concat (client_lines second.lines))
        later.client.bytes one.client two.client ∙ ap (λ bytes. bytes ++ later.client.bytes)
        (sym (concat-append (client_lines first.lines) (client_lines second.lines))
        ∙ ap concat (sym (map-append _ first.lines second.lines)));
    lines = all-append IsDecidedLine first.lines second.lines one.lines two.lines;
    server = taken_in_turn before.server.bytes first.from_server
        (bytes_that_came (passed_in first.steps)) middle.server.bytes second.from_server
        (bytes_that_came (passed_in second.steps)) later.server.bytes one.server two.server
        ∙ ap (λ bytes. bytes ++ later.server.bytes)
        (sym (flat_map-append _ (passed_in first.steps) (passed_in second.steps))
        ∙ ap bytes_that_came (sym passed_is));
    replies = subst (AllByRecursion IsPassedReply) (sym passed_is) (all-append IsPassedReply
        (passed_in first.steps) (passed_in second.steps) one.replies two.replies);
    to_server = (λ i. one.to_server i ++ two.to_server i)
        ∙ sym (concat-append (all_sent first.lines) (all_sent second.lines))
        ∙ ap concat (sym (flat_map-append _ first.lines second.lines));
    to_client = (λ i. one.to_client i ++ two.to_client i)
        ∙ sym (flat_map-append given_by_step first.steps second.steps);
    fates = ap (λ fates. held_fate before.answer ++ fates)
        (map-append _ first.lines second.lines)
        ∙ taken_in_turn (held_fate before.answer) (fates_of first.lines) (fates_in first.steps)
        (held_fate middle.answer) (fates_of second.lines) (fates_in second.steps)
        (held_fate later.answer) one.fates two.fates
        ∙ ap (λ fates. fates ++ held_fate later.answer)
        (sym (filter_map-append fate_by_step first.steps second.steps));
    steps = subst (λ steps. AreForwardingSteps before.dialogue steps later.dialogue)
        (sym (map-append forwarding_step first.steps second.steps))
        (steps-in-turn (forwarding_steps first.steps) (forwarding_steps second.steps)
        before.dialogue middle.dialogue later.dialogue one.steps two.steps);
    bounded = omega (arith, one.bounded, two.bounded, ap (λ limits. limits.waiting) one.limits);
    limits = two.limits ∙ one.limits;
    line_limit = two.line_limit ∙ one.line_limit;
  }

-- ---- what the client is given

fates-counted : (lines : List DecidedLine) → length (fates_of lines) ≡ length lines
fates-counted [] = refl
fates-counted (decided ∷ lines) = ap suc (fates-counted lines)

lines-counted : (steps : List ProxyStep)
    → length (filter is_line (forwarding_steps steps)) ≡ length (fates_in steps)
lines-counted [] = refl
lines-counted (SendsLine line ∷ steps) = ap suc (lines-counted steps)
lines-counted (GivesReply passed ∷ steps) = lines-counted steps
lines-counted (GivesOwn reply ∷ steps) = ap suc (lines-counted steps)

module _ {limits : Limits} {later : ProxyState} {traffic : Traffic}
    (is : IsTraffic (new_proxy limits) traffic later) where
  pub are_exchanges : AreExchanges Greeting (client_replies traffic.steps)
  are_exchanges =
      given-exchanges 0 (forwarding_steps traffic.steps) new_dialogue later.dialogue refl is.steps

  pub all_complete : IsGreeted later.dialogue.answered → commands_owed later.dialogue ≡ 0
      → later.answer ≡ None
      → length (filter is_final (client_replies traffic.steps)) ≡ suc (length traffic.lines)
  all_complete greeted none_owed none_held =
      let counted = each_complete new_dialogue later.dialogue
      (forwarding_steps traffic.steps) refl refl
      is.steps greeted none_owed in
      let fates : fates_of traffic.lines ≡ fates_in traffic.steps = is.fates
      ∙ ap (λ answer. fates_in traffic.steps ++ held_fate answer) none_held
      ∙ append-nil (fates_in traffic.steps) in
      counted ∙ ap suc (lines-counted traffic.steps ∙ ap length (sym fates)
      ∙ fates-counted traffic.lines)

-- ---- what the server is sent

sent-lines : (lines : List DecidedLine) → AllByRecursion IsDecidedLine lines
    → AllByRecursion IsLine (all_sent lines)
sent-lines [] all = tt
sent-lines (decided ∷ lines) all = by_fate decided.fate all.0.1 (sent-lines lines all.1)
  where
    by_fate : (fate : Fate) → IsSingle fate → AllByRecursion IsLine (all_sent lines)
        → AllByRecursion IsLine (sent_for fate ++ all_sent lines)
    by_fate (SentAs line) one others = (one, others)
    by_fate (AnsweredBy reply) one others = others

taken-lines : (lines : List DecidedLine) → AllByRecursion IsDecidedLine lines
    → AllByRecursion IsLine (client_lines lines)
taken-lines [] all = tt
taken-lines (decided ∷ lines) all = (all.0.0, taken-lines lines all.1)

-- these lines are the lines of their bytes
lines_of-lines : (lines : List Bytes) → AllByRecursion IsLine lines → lines_of (concat lines)
    ≡ lines
lines_of-lines lines all = ap lines_of (sym (append-nil (concat lines)))
    ∙ (lines_of-concat lines [] all tt).0

module _ {before later : ProxyState} {traffic : Traffic} (is : IsTraffic before traffic later) where
  pub sends_only : lines_of traffic.to_server ≡ all_sent traffic.lines
  sends_only = ap lines_of is.to_server
      ∙ lines_of-lines (all_sent traffic.lines) (sent-lines traffic.lines is.lines)

  -- ---- where nothing is changed

  module _ (same : ChangesNothing traffic) where
    pub same_events : events None traffic.to_server
        ≡ events None (concat (client_lines traffic.lines))
    same_events = ap (map (event_for None)) sends_only
        ∙ each traffic.lines same.lines
        ∙ ap (map (event_for None))
        (sym (lines_of-lines (client_lines traffic.lines) (taken-lines traffic.lines is.lines)))
      where
        each : (lines : List DecidedLine)
            → AllByRecursion (λ decided. KeepsLine decided.line decided.fate) lines
            → map (event_for None) (all_sent lines) ≡ map (event_for None) (client_lines lines)
        each [] all = refl
        each (decided ∷ lines) all = by_fate decided.fate all.0 (each lines all.1)
          where
            by_fate : (fate : Fate) → KeepsLine decided.line fate
                → map (event_for None) (all_sent lines) ≡ map (event_for None) (client_lines lines)
                → map (event_for None) (sent_for fate ++ all_sent lines)
                ≡ event_for None decided.line ∷ map (event_for None) (client_lines lines)
            by_fate (SentAs line) means others = λ i. event_of (means i) ∷ others i
            by_fate (AnsweredBy reply) means others = absurd means

-- ---- where each line is sent, and each reply given as it came

abbrev pub AreSent : List Fate → Type 0
AreSent fates = AllByRecursion (λ fate. (line : Bytes) × (fate ≡ SentAs line)) fates

are-sent : (lines : List DecidedLine)
    → AllByRecursion (λ decided. KeepsLine decided.line decided.fate) lines
    → AreSent (fates_of lines)
are-sent [] all = tt
are-sent (decided ∷ lines) all = (by_fate decided.fate all.0, are-sent lines all.1)
  where
    by_fate : (fate : Fate) → KeepsLine decided.line fate → (line : Bytes) × (fate ≡ SentAs line)
    by_fate (SentAs line) means = (line, refl)
    by_fate (AnsweredBy reply) means = absurd means

first-sent : (fates others : List Fate) → AreSent (fates ++ others) → AreSent fates
first-sent [] others all = tt
first-sent (fate ∷ fates) others all = (all.0, first-sent fates others all.1)

-- then the replies are all that is given
given-as-came : (steps : List ProxyStep) → AreSent (fates_in steps)
    → AreAsTheyCame (passed_in steps) → given_in steps ≡ bytes_that_came (passed_in steps)
given-as-came [] sent same = refl
given-as-came (SendsLine line ∷ steps) sent same = given-as-came steps sent.1 same
given-as-came (GivesReply passed ∷ steps) sent same =
    λ i. (same.0 i).bytes ++ given-as-came steps sent same.1 i
given-as-came (GivesOwn reply ∷ steps) sent same = absurd (let e = sent.0.1 in cc)

pub same_bytes : {limits : Limits} {later : ProxyState} {traffic : Traffic}
    → IsTraffic (new_proxy limits) traffic later → ChangesNothing traffic
    → traffic.to_client ++ later.server.bytes ≡ traffic.from_server
same_bytes {limits} {later} {traffic} is same =
    let sent : AreSent (fates_in traffic.steps) = first-sent (fates_in traffic.steps)
    (held_fate later.answer) (subst AreSent is.fates (are-sent traffic.lines same.lines)) in
    ap (λ bytes. bytes ++ later.server.bytes)
    (is.to_client ∙ given-as-came traffic.steps sent same.replies) ∙ sym is.server
