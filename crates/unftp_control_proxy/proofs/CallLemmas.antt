-- What the calls of a proxy ensure says what passes in them.
use Rattle.std.proofs.Common.{◌≡◌, ◌≢◌, ◌≤◌, ◌==◌, ◌-◌, ◌+◌, ◌||◌, eqb-true, ℕ, Bool, true, false, List, [], ◌∷◌, ◌++◌, length, drop, take, Option, None, Some, Ok, is_some, nat_lt, refl, sym, ap, subst, ◌∙◌, append-nil, arith, unwrap_or}
use Rattle.std.specs.Prelude.{if◌then◌else◌, nat_le}
use Rattle.std.proofs.Math.Seq.{drop-append_seam}
use Rattle.std.proofs.lemmas.Bool.{false≢true, ltb-false}
use Rattle.std.proofs.lemmas.Bool.Decides.{nat_tests}
use Rattle.std.proofs.lemmas.List.{take-append-drop, take_at}
use Rattle.unftp_control_defs.specs.Bytes.{Bytes}
use Rattle.unftp_control_defs.specs.Events.{exceeds}
use Rattle.unftp_control_defs.specs.Forwarded.{forwarded_line}
use Rattle.unftp_control_defs.specs.FtpCommand.{FtpCommand}
use Rattle.unftp_control_defs.specs.FtpReply.{FtpReply, encoded}
use Rattle.unftp_control_defs.specs.Lines.{IsLine}
use Rattle.unftp_control_defs.specs.Outcome.{outcome}
use Rattle.unftp_control_defs.specs.ReplyReader.{FrontReply}
use Rattle.unftp_control_defs.specs.Turns.{is_preliminary}
use Rattle.unftp_control_read.specs.ReplyDecoding.{PendingReplies}
use Rattle.unftp_control_serve.specs.ClientLines.{front_line, unless_too_long}
use Rattle.unftp_control_serve.specs.Decoder.{line_in, without_line}
use Rattle.unftp_control_serve.proofs.ClientLineLemmas.{cut_front}
use Rattle.unftp_control_write.specs.Forwarding.{IsForwarded}
use Rattle.unftp_control_client.specs.Dialogue.{after_command, after_reply, awaits_tls, first_owed, is_something, next_to}
use Rattle.unftp_control_client.specs.ForwardingSteps.{IsGreeted}
use Rattle.unftp_control_client.specs.declared.dialogue.Dialogue.{Dialogue}
use Rattle.unftp_control_client.proofs.ClientStepLemmas.{answered-after_final, answered_after, sent-after_final}
use Rattle.unftp_control_proxy.specs.ProxyAnswers.{IsReplyOf}
use Rattle.unftp_control_proxy.specs.ProxyCalls.{AnsweredBy, Fate, GivesAnswer, IsDecidable, IsScannedFor, IsWholeReply, PassesReply, ProxyState, ReplyBytes, SentAs, TakesReplyBytes, after_fate, greeting_owed, server_owes, waits, with_settled}
use Rattle.unftp_control_proxy.specs.Traffic.{IsSingle, IsTraffic, held_fate, no_traffic, one_answer, one_line, one_reply}
use Rattle.unftp_control_proxy.proofs.AnswerLemmas.{read_is_final}

-- ---- pieces, and calls in which nothing passes

-- only the bytes of both sides differ
module _ (before later : ProxyState) (dialogue : later.dialogue ≡ before.dialogue)
    (answer : later.answer ≡ before.answer) (limits : later.limits ≡ before.limits)
    (line_limit : later.client.limit ≡ before.client.limit) where
  pub pieces : (from_client from_server : Bytes)
      → before.client.bytes ++ from_client ≡ later.client.bytes
      → before.server.bytes ++ from_server ≡ later.server.bytes
      → IsTraffic before
      (record no_traffic { from_client = from_client; from_server = from_server }) later
  pieces from_client from_server client server = record {
    client = client;
    lines = tt;
    server = server;
    replies = tt;
    to_server = refl;
    to_client = refl;
    fates = append-nil (held_fate before.answer) ∙ ap held_fate (sym answer);
    steps = dialogue;
    bounded = omega (arith, ap server_owes dialogue);
    limits = limits;
    line_limit = line_limit;
  }

pub found_only : (before later : ProxyState) → IsScannedFor before later
    → IsTraffic before no_traffic later
found_only before later is = pieces before later
    (ap (λ (p : ProxyState). p.dialogue) is.same) (ap (λ (p : ProxyState). p.answer) is.same)
    (ap (λ (p : ProxyState). p.limits) is.same) is.limit [] []
    (append-nil before.client.bytes ∙ sym is.bytes)
    (append-nil before.server.bytes ∙ sym (ap (λ (p : ProxyState). p.server.bytes) is.same))

pub settled_only : (before later : ProxyState) → later ≡ with_settled before
    → IsTraffic before no_traffic later
settled_only before later is = pieces before later
    (ap (λ (p : ProxyState). p.dialogue) is) (ap (λ (p : ProxyState). p.answer) is)
    (ap (λ (p : ProxyState). p.limits) is) (ap (λ (p : ProxyState). p.client.limit) is) [] []
    (append-nil before.client.bytes ∙ sym (ap (λ (p : ProxyState). p.client.bytes) is))
    (append-nil before.server.bytes ∙ sym (ap (λ (p : ProxyState). p.server.bytes) is))

-- ---- a line that is decided

neither : (s t : Bool) → (s || t) ≡ false → (s ≡ false) × (t ≡ false)
neither true t e = absurd (false≢true (sym e))
neither false t e = (refl, e)

is_none : {A : Type 0} (option : Option A) → is_some option ≡ false → option ≡ None
is_none None e = refl
is_none (Some x) e = absurd (false≢true (sym e))

-- where it goes on, no answer is held, and the server owes less than it may
goes_on : (proxy : ProxyState) → waits proxy ≡ false → (proxy.answer ≡ None)
    × (nat_le proxy.limits.waiting (server_owes proxy.dialogue) ≡ false)
goes_on proxy e =
    let full = neither (nat_le proxy.limits.waiting (server_owes proxy.dialogue))
    (is_some proxy.answer || awaits_tls proxy.dialogue) e in (
      is_none proxy.answer (neither (is_some proxy.answer) (awaits_tls proxy.dialogue) full.1).0,
      full.0,
    )

-- what is shown of a line that is not too long is the line
shown_is : (limit : Option ℕ) (line : Bytes) → unless_too_long limit line ≢ [] → unless_too_long limit line ≡ line
shown_is limit line some = by_test (exceeds limit (length line)) some
  where
    by_test : (long : Bool) → (if long then [] else line) ≢ [] → (if long then [] else line) ≡ line
    by_test true some = absurd (some refl)
    by_test false some = refl

pub line_in-is : (proxy : ProxyState) → IsDecidable proxy → line_in proxy.client ≢ []
    → line_in proxy.client ≡ front_line proxy.client.bytes
line_in-is proxy may some =
    let shown : line_in proxy.client ≡ unless_too_long proxy.client.limit (front_line proxy.client.bytes)
    = rw may.found refl in
    shown ∙ shown_is proxy.client.limit (front_line proxy.client.bytes) (subst (λ line. line ≢
    []) shown some)

module _ (before later : ProxyState) (may : IsDecidable before) where
  abbrev line : Bytes
  line = front_line before.client.bytes

  taken : later.client ≡ without_line before.client
      → before.client.bytes ++ [] ≡ (line ++ []) ++ later.client.bytes
  taken is = append-nil before.client.bytes ∙ cut_front before.client.bytes may.is_line
      ∙ (λ i. sym (append-nil line) i ++ sym (ap (λ client. client.bytes) is) i)

  none_held : before.answer ≡ None
  none_held = (goes_on before may.goes_on).0

  not_full : nat_le before.limits.waiting (server_owes before.dialogue) ≡ false
  not_full = (goes_on before may.goes_on).1

  sends : (sent : Bytes) → IsLine sent → later ≡ after_fate before (SentAs sent)
      → IsTraffic before (one_line line (SentAs sent)) later
  sends sent one is = record {
    client = taken (ap (λ (p : ProxyState). p.client) is);
    lines = ((may.is_line, one), tt);
    server = append-nil before.server.bytes ∙ sym (ap (λ (p : ProxyState). p.server.bytes) is);
    replies = tt;
    to_server = refl;
    to_client = refl;
    fates = ap (λ answer. held_fate answer ++ SentAs sent ∷ []) none_held
        ∙ ap (λ answer. SentAs sent ∷ held_fate answer)
        (sym (ap (λ (p : ProxyState). p.answer) is ∙ none_held));
    steps = (after_command sent before.dialogue, refl, ap (λ (p : ProxyState). p.dialogue) is);
    bounded = grind (
      arith,
      nat_tests,
      not_full,
      ap (λ (p : ProxyState). server_owes p.dialogue) is,
    );
    limits = ap (λ (p : ProxyState). p.limits) is;
    line_limit = ap (λ (p : ProxyState). p.client.limit) is;
  }

  answers : (reply : FtpReply) → IsSingle (AnsweredBy reply)
      → later ≡ after_fate before (AnsweredBy reply)
      → IsTraffic before (one_line line (AnsweredBy reply)) later
  answers reply one is = record {
    client = taken (ap (λ (p : ProxyState). p.client) is);
    lines = ((may.is_line, one), tt);
    server = append-nil before.server.bytes ∙ sym (ap (λ (p : ProxyState). p.server.bytes) is);
    replies = tt;
    to_server = refl;
    to_client = refl;
    fates = ap (λ answer. held_fate answer ++ AnsweredBy reply ∷ []) none_held
        ∙ ap held_fate (sym (ap (λ (p : ProxyState). p.answer) is));
    steps = ap (λ (p : ProxyState). p.dialogue) is;
    bounded = omega (arith, ap (λ (p : ProxyState). server_owes p.dialogue) is);
    limits = ap (λ (p : ProxyState). p.limits) is;
    line_limit = ap (λ (p : ProxyState). p.client.limit) is;
  }

  pub decides : (fate : Fate) → IsSingle fate → later ≡ after_fate before fate
      → IsTraffic before (one_line line fate) later
  decides (SentAs sent) one is = sends sent one is
  decides (AnsweredBy reply) one is = answers reply one is

module _ (before later : ProxyState) (sent sent_later : Bytes) (may : IsDecidable before)
    (some : line_in before.client ≢ [])
    (forwarded : IsForwarded (line_in before.client) sent sent_later)
    (is : later ≡ after_fate before (SentAs (drop (length sent) sent_later))) where
  abbrev taken_line : Bytes
  taken_line = front_line before.client.bytes

  same : line_in before.client ≡ taken_line
  same = line_in-is before may some

  appended : sent_later ≡ sent ++ forwarded_line taken_line forwarded.command
  appended = forwarded.appended
      ∙ ap (λ line. sent ++ forwarded_line line forwarded.command) same

  pub forwards : (command : FtpCommand) × (outcome taken_line ≡ Ok command)
      × (sent_later ≡ sent ++ forwarded_line taken_line command)
      × (outcome (forwarded_line taken_line command) ≡ outcome taken_line)
      × IsTraffic before (one_line taken_line (SentAs (forwarded_line taken_line command))) later
  forwards =
      let command = forwarded.command in
      let means : outcome taken_line ≡ Ok command = ap outcome (sym same) ∙ forwarded.means in
      let line_is : drop (length sent) sent_later ≡ forwarded_line taken_line command =
      ap (drop (length sent)) appended
      ∙ drop-append_seam sent (forwarded_line taken_line command) in (
        command,
        means,
        appended,
        ap (λ line. outcome (forwarded_line line command)) (sym same) ∙ forwarded.read_back
            ∙ sym means,
        decides before later may (SentAs (forwarded_line taken_line command))
            (subst (λ line. IsLine (forwarded_line line command)) same forwarded.is_line)
            (is ∙ ap (λ line. after_fate before (SentAs line)) line_is),
      )

-- ---- what the client is given

takes_first : (before : PendingReplies) (reply : ReplyBytes) (later : PendingReplies)
    → TakesReplyBytes before reply later → before.bytes ≡ reply.bytes ++ later.bytes
takes_first before reply later takes =
    sym (take-append-drop takes.used before.bytes)
    ∙ (λ i. sym takes.bytes_are i
    ++ sym (ap (λ (pending : PendingReplies). pending.bytes) takes.later_is) i)

pub takes_whole : (before : PendingReplies) (reply : ReplyBytes) (later : PendingReplies)
    → TakesReplyBytes before reply later → IsWholeReply reply
takes_whole before reply later takes =
    let front = takes.front in
    let same : reply.bytes ≡ front.front = takes.bytes_are ∙ ap (take takes.used) front.cut
    ∙ take_at front.front front.rest takes.used (sym front.length_is) in
    record {
      front = front.front;
      rest = [];
      cut = same ∙ sym (append-nil front.front);
      reply = front.reply;
      length_is = ap length same;
    }

-- what is found, where it is of this code and all of the bytes
pub found_whole : (bytes : Bytes) (found used code : ℕ)
    → (lines : List Bytes) × FrontReply bytes found lines used → found ≡ code
    → (used == length bytes) ≡ true → IsReplyOf code bytes
found_whole bytes found used code read is all =
    let all_used = eqb-true used (length bytes) all in (
      read.0,
      subst (λ (q : ℕ × ℕ). FrontReply bytes q.0 read.0 q.1)
          (λ i. (is i, all_used i)) read.1,
    )

-- a reply leaves no more owed
abbrev owes : ℕ → Option ℕ → ℕ
owes sent answered = sent - unwrap_or answered 0 + greeting_owed answered

owes-after : (sent : ℕ) (answered : Option ℕ) (preliminary : Bool)
    → owes sent (answered_after preliminary (first_owed answered sent) answered) ≤ owes sent answered
owes-after sent answered true = omega arith
owes-after sent None false = omega arith
owes-after sent (Some answered) false = by_test (nat_lt answered sent) refl
  where
    by_test : (test : Bool) → nat_lt answered sent ≡ test → owes sent
        (answered_after false (first_owed (Some answered) sent) (Some answered))
        ≤ owes sent (Some answered)
    by_test true e = rw e (omega arith)
    by_test false e = rw e (omega arith)

owes_less : (dialogue : Dialogue) (code : ℕ)
    → server_owes (after_reply dialogue code) ≤ server_owes dialogue
owes_less dialogue code =
    let preliminary = is_preliminary code in
    let to = next_to dialogue in
    let after : server_owes (after_reply dialogue code)
    ≡ owes dialogue.sent (answered_after preliminary to dialogue.answered) =
    λ i. owes (sent-after_final preliminary to dialogue i)
    (answered-after_final preliminary to dialogue i) in
    omega (arith, after, owes-after dialogue.sent dialogue.answered preliminary)

-- where none is owed
none_is_owed : (answered : Option ℕ) (sent : ℕ)
    → is_something (first_owed answered sent) ≡ false
    → IsGreeted answered × (sent - unwrap_or answered 0 ≡ 0)
none_is_owed None sent e = absurd (false≢true (sym e))
none_is_owed (Some answered) sent e = (tt, by_test (nat_lt answered sent) refl)
  where
    by_test : (test : Bool) → nat_lt answered sent ≡ test → sent - answered ≡ 0
    by_test true is = absurd (false≢true (sym (rw is at e)))
    by_test false is = omega (arith, ltb-false answered sent is)

module _ (before later : ProxyState) where
  pub passes_reply : (came given : ReplyBytes) → PassesReply before came given later
      → IsTraffic before (one_reply
      (record { to = next_to before.dialogue; came = came; given = given })) later
  passes_reply came given passes = record {
    client = append-nil before.client.bytes
        ∙ sym (ap (λ (p : ProxyState). p.client.bytes) passes.later_is);
    lines = tt;
    server = append-nil before.server.bytes
        ∙ takes_first before.server came later.server passes.takes
        ∙ ap (λ bytes. bytes ++ later.server.bytes) (sym (append-nil came.bytes));
    replies = (
      (takes_whole before.server came later.server passes.takes, passes.whole, passes.same_code),
      tt,
    );
    to_server = refl;
    to_client = sym (append-nil given.bytes);
    fates = append-nil (held_fate before.answer)
        ∙ ap held_fate (sym (ap (λ (p : ProxyState). p.answer) passes.later_is));
    steps = (
      after_reply before.dialogue came.code,
      ((refl, ap (after_reply before.dialogue) (sym passes.same_code)), passes.owed),
      ap (λ (p : ProxyState). p.dialogue) passes.later_is,
    );
    bounded = omega (
      arith,
      ap (λ (p : ProxyState). server_owes p.dialogue) passes.later_is,
      owes_less before.dialogue came.code,
    );
    limits = ap (λ (p : ProxyState). p.limits) passes.later_is;
    line_limit = ap (λ (p : ProxyState). p.client.limit) passes.later_is;
  }

  pub gives_answer : (reply : FtpReply) → GivesAnswer before reply later
      → IsTraffic before (one_answer reply) later
  gives_answer reply gives =
      let none = none_is_owed before.dialogue.answered before.dialogue.sent gives.none_owed in
      record {
        client = append-nil before.client.bytes
            ∙ sym (ap (λ (p : ProxyState). p.client.bytes) gives.later_is);
        lines = tt;
        server = append-nil before.server.bytes
            ∙ sym (ap (λ (p : ProxyState). p.server.bytes) gives.later_is);
        replies = tt;
        to_server = refl;
        to_client = sym (append-nil (encoded reply));
        fates = ap (λ answer. held_fate answer ++ []) gives.held
            ∙ ap (λ answer. AnsweredBy reply ∷ held_fate answer)
            (sym (ap (λ (p : ProxyState). p.answer) gives.later_is));
        steps = (
          before.dialogue,
          (none.0, none.1, read_is_final reply gives.single, refl),
          ap (λ (p : ProxyState). p.dialogue) gives.later_is,
        );
        bounded = omega (arith, ap (λ (p : ProxyState). server_owes p.dialogue) gives.later_is);
        limits = ap (λ (p : ProxyState). p.limits) gives.later_is;
        line_limit = ap (λ (p : ProxyState). p.client.limit) gives.later_is;
      }
