-- What a client takes of what a server says, whatever the order of their acts.
use Rattle.std.proofs.Common.{◌≡◌, ◌≤◌, ℕ, suc, true, List, [], ◌∷◌, ◌++◌, flat_map, map, length, drop, get_or, Option, Some, None, refl, sym, ap, subst, ◌∙◌, arith, append_assoc, length-append}
use Rattle.std.specs.Prelude.{option_map}
use Rattle.std.specs.List.{AllByRecursion, concat, filter}
use Rattle.std.proofs.lemmas.Grind.{flat_map-append}
use Rattle.std.proofs.lemmas.List.{append-nil, length-map}
use Rattle.std.proofs.lemmas.List.Elements.{filter_map-append}
use Rattle.std.proofs.lemmas.List.Folds.{concat-append}
use Rattle.unftp_control_defs.specs.Bytes.{Bytes}
use Rattle.unftp_control_defs.specs.Events.{FtpEvent, event_for, events}
use Rattle.unftp_control_defs.specs.FtpReply.{FtpReply, IsReadable, encoded, reply_as_read}
use Rattle.unftp_control_defs.specs.Lines.{IsLine, incomplete_line}
use Rattle.unftp_control_defs.specs.ReplyReader.{HasFront}
use Rattle.unftp_control_defs.specs.Run.{SessionLaw, replies, run_for, run_of, turn, replies_by_event, all_replies, replies_to}
use Rattle.unftp_control_defs.specs.TakingSteps.{AreTakingSteps, TakesReply, all_taken}
use Rattle.unftp_control_defs.proofs.LineLemmas.{events-append}
use Rattle.unftp_control_defs.proofs.RunLemmas.{at_each-append, run_of-append, run_of-first}
use Rattle.unftp_control_defs.proofs.ExchangeLemmas.{length-replies_by_event, read-alike}
use Rattle.unftp_control_serve.specs.Writing.{Begins}
use Rattle.unftp_control_defs.specs.Turns.{IsExchange, cut_reads, is_preliminary_read}
use Rattle.unftp_control_client.specs.Exchange.{new_client}
use Rattle.unftp_control_client.specs.Steps.{AreDialogueSteps, AreExchanges, AreClientSteps, ClientStep, ReplyTo, Received, SentLine, Took, after_to, decoder_steps, is_final, is_something, lines_sent, replies_taken, line_of_step, taken_by, was_owed}
use Rattle.unftp_control_client.specs.declared.Client.{Client}
use Rattle.unftp_control_client.specs.declared.dialogue.To.{To}
use Rattle.unftp_control_client.specs.declared.dialogue.To.TheVariants.{Greeting, Command, Nothing}
use Rattle.unftp_control_client.proofs.ClientStepLemmas.{none_owed, steps-append, steps-dialogue, steps-exchanges, steps-taken}
use Rattle.unftp_control.specs.Conversation.{Show}
use Rattle.unftp_control.specs.Acts.{AreFirst, AtClient, AtServer, IsConversation, IsUnderstood, Server, Act, at_client, came_to_client, came_to_server, client_steps, exchanges, lines_of_client, reply_at, sent_by_client, taken_by_client, turns_to, written_by}
use Rattle.unftp_control.proofs.ConversationLemmas.{events-lines, length-cut_by, length-onto_first, read_all, read_so_far, shown_turns}

-- ---- replies to the first bytes are the first replies

pub turns_first : {S : Type 0} (law : SessionLaw S) (s : S) (events more : List FtpEvent)
    → Begins (replies_by_event law s (run_of law s (events ++ more)))
    (replies_by_event law s (run_of law s events))
turns_first law s events more = (
  _,
  ap (replies_by_event law s) (run_of-append law s events more)
      ∙ at_each-append (replies_to law) law s (run_of law s events) _,
)

pub turns_to_first : {S : Type 0} (server : Server S) (input more : Bytes)
    → Begins (turns_to server (input ++ more)) (turns_to server input)
turns_to_first server input more =
    let first = turns_first server.law server.state (events server.limit input)
    (events server.limit (incomplete_line input ++ more)) in
    let greeting : List FtpReply = server.greeting ∷ [] in (
      first.0,
      ap (λ (events : List FtpEvent). greeting
          ∷ replies_by_event server.law server.state
          (run_of server.law server.state events))
          (events-append server.limit input more)
          ∙ ap (λ (later : List (List FtpReply)). greeting ∷ later) first.1,
    )

-- what is written is what is said
pub written-said : {S : Type 0} (server : Server S) (input : Bytes)
    → written_by server input ≡ flat_map encoded (all_replies (turns_to server input))
written-said server input = refl

pub all_of_first : {X : Type 0} (P : X → Type 0) (xs ys : List X) → AllByRecursion P (xs ++ ys)
    → AllByRecursion P xs
all_of_first P [] ys each = tt
all_of_first P (x ∷ xs) ys each = (each.0, all_of_first P xs ys each.1)

-- the first of turns that are understood are understood
pub IsUnderstood-first : (turns more : List (List FtpReply)) → IsUnderstood (turns ++ more)
    → IsUnderstood turns
IsUnderstood-first turns more all = record {
  readable = all_of_first IsReadable (all_replies turns) (all_replies more)
      (subst (AllByRecursion IsReadable) (flat_map-append (λ turn. turn) turns more) all.readable);
  exchanges = all_of_first IsExchange turns more all.exchanges;
}

-- ---- replies by what they are to

-- These were taken, and those that were read after them follow.
abbrev AreNumbered : List ReplyTo → List (ℕ × List Bytes) → List (Option ReplyTo) → Type 0
AreNumbered taken more all =
    (rest : List (Option ReplyTo)) × (all ≡ map Some taken ++ rest) × (more ≡ [] → rest ≡ [])

numbered-first : (taken : ReplyTo) (later : List ReplyTo) (more : List (ℕ × List Bytes)) (to : To)
    (reply : FtpReply) (all : List (Option ReplyTo)) → Some taken.reply ≡ reply_as_read reply
    → taken.to ≡ to → AreNumbered later more all
    → AreNumbered (taken ∷ later) more (reply_at to reply ∷ all)
numbered-first taken later more to reply all read is_to rest =
    let is_so : ◌≡◌ {A = Option ReplyTo} (reply_at to reply) (Some taken) =
    sym (ap (option_map (λ read. record { to = to; reply = read })) read)
    ∙ (λ i. Some (record { to = sym is_to i; reply = taken.reply })) in
    (rest.0, (λ i. is_so i ∷ rest.1 i), rest.2)

shown_first : (taken : ReplyTo) (later : List ReplyTo) (more : List (ℕ × List Bytes))
    (reply : FtpReply) (replies : List FtpReply)
    → Show (map (λ t. t.reply) (taken ∷ later) ++ more) (reply ∷ replies)
    → Some taken.reply ≡ reply_as_read reply
shown_first taken later more reply replies show = ap (λ shown. get_or shown 0 None) show

-- the replies of a turn, and of those after it
numbered : (taken : List ReplyTo) (more : List (ℕ × List Bytes)) (to : To) (turn : List FtpReply)
    (turns : List (List FtpReply)) → IsExchange turn → AllByRecursion IsExchange turns
    → AreExchanges to taken → Show (map (λ t. t.reply) taken ++ more) (turn ++ all_replies turns)
    → AreNumbered taken more (exchanges to (turn ∷ turns))
numbered taken more to [] turns is each are show = absurd is
numbered [] [] to (reply ∷ turn) turns is each are show = absurd (cc)
numbered [] (read ∷ more) to (reply ∷ turn) turns is each are show =
    (exchanges to ((reply ∷ turn) ∷ turns), refl, λ none. absurd (cc))
numbered (taken ∷ []) [] to (reply ∷ []) [] is each are show =
    numbered-first taken [] [] to reply [] (shown_first taken [] [] reply [] show) are.0
    ([], refl, λ none. refl)
numbered (taken ∷ []) (other ∷ more) to (reply ∷ []) [] is each are show = absurd (cc)
numbered (taken ∷ (next ∷ later)) more to (reply ∷ []) [] is each are show = absurd (cc)
numbered (taken ∷ later) more to (reply ∷ []) (turn ∷ turns) is each are show =
    let read = shown_first taken later more reply (turn ++ all_replies turns) show in
    let final = read-alike reply taken.reply read ∙ is in
    numbered-first taken later more to reply (exchanges (after_to to) (turn ∷ turns)) read are.0
    (numbered later more (after_to to) turn turns each.0 each.1
    (rw final at are.1) (ap (drop 1) show))
numbered (taken ∷ later) more to (reply ∷ (second ∷ turn)) turns is each are show =
    let read = shown_first taken later more reply ((second ∷ turn) ++ all_replies turns) show in
    let preliminary = read-alike reply taken.reply read ∙ is.0 in
    numbered-first taken later more to reply (exchanges to ((second ∷ turn) ∷ turns)) read are.0
    (numbered later more to (second ∷ turn) turns is.1 each
    (rw preliminary at are.1) (ap (drop 1) show))

-- ---- replies that are all owed

owed_all : (taken : List ReplyTo) → AllByRecursion (λ t. was_owed t ≡ true) taken
    → filter was_owed taken ≡ taken
owed_all [] each = refl
owed_all (t ∷ taken) each = rw each.0 (ap (λ later. t ∷ later) (owed_all taken each.1))

-- those of them that are final
final_owed : (taken : List ReplyTo)
    → length (filter is_final (filter was_owed taken)) ≤ length (filter is_final taken)
final_owed [] = omega arith
final_owed (t ∷ taken) = grind (arith, final_owed taken)

-- each of these ended an exchange, and the next reply is of one more
final_before : (taken : List ReplyTo) (next : ReplyTo) → suc (length (filter is_final taken))
    ≤ length (cut_reads (map (λ t. t.reply) (taken ++ next ∷ [])))
final_before [] next = grind arith
final_before (t ∷ taken) next = grind (
  arith,
  final_before taken next,
  length-onto_first t.reply (cut_reads (map (λ t. t.reply) (taken ++ next ∷ []))),
)

taken_of : (steps : List ClientStep)
    → all_taken (decoder_steps steps) ≡ map (λ t. t.reply) (replies_taken steps)
taken_of [] = refl
taken_of (SentLine line ∷ steps) = taken_of steps
taken_of (Received piece ∷ steps) = taken_of steps
taken_of (Took taken ∷ steps) = ap (λ more. taken.reply ∷ more) (taken_of steps)

-- ---- a conversation

module _ {S : Type 0} (server : Server S) (limit : Option ℕ) (acts : List Act) (client : Client)
    (talk : IsConversation server limit acts client)
    (clear : IsUnderstood (turns_to server (sent_by_client acts))) where
  -- at some time of it
  module _ (before later : List Act) (split : acts ≡ before ++ later) (middle : Client)
      (are : AreClientSteps (new_client limit) (client_steps before) middle) where
    abbrev here : List (List FtpReply)
    here = turns_to server (came_to_server before)

    lines_so : lines_of_client acts ≡ lines_of_client before ++ lines_of_client later
    lines_so = ap lines_of_client split
        ∙ ap lines_sent (filter_map-append at_client before later)
        ∙ filter_map-append line_of_step (client_steps before) (client_steps later)

    came_first : Begins (sent_by_client acts) (came_to_server before)
    came_first = let sent = (talk.in_order before later split).to_server in (
      sent.0 ++ sent_by_client later,
      ap concat lines_so ∙ concat-append (lines_of_client before) (lines_of_client later)
          ∙ ap (λ bytes. bytes ++ sent_by_client later) sent.1
          ∙ append_assoc (came_to_server before) sent.0 (sent_by_client later),
    )

    here_first : Begins (turns_to server (sent_by_client acts)) here
    here_first = let first = turns_to_first server (came_to_server before) came_first.0 in
        (first.0, ap (turns_to server) came_first.1 ∙ first.1)

    here_clear : IsUnderstood here
    here_clear = IsUnderstood-first here here_first.0 (subst IsUnderstood here_first.1 clear)

    decoded : AreTakingSteps TakesReply [] (decoder_steps (client_steps before))
        middle.replies.bytes
    decoded = steps-taken (client_steps before) (new_client limit) middle are

    shown : (more : List (ℕ × List Bytes))
        × Show (all_taken (decoder_steps (client_steps before)) ++ more) (all_replies here)
    shown = let came = (talk.in_order before later split).to_client in
        read_so_far (all_replies here) here_clear.readable (decoder_steps (client_steps before))
        middle.replies.bytes decoded came.0
        (sym came.1 ∙ written-said server (came_to_server before))

    -- the greeting and one exchange for each line at most
    pub few : length (cut_reads (map (λ (t : ReplyTo). t.reply) (taken_by_client before)))
        ≤ suc (length (lines_of_client before))
    few =
        let sent = (talk.in_order before later split).to_server in
        let events_of = events-append server.limit (came_to_server before) sent.0 in
        let lines_are = events-lines server.limit (lines_of_client before)
        (all_of_first IsLine (lines_of_client before) (lines_of_client later)
        (subst (AllByRecursion IsLine) lines_so talk.lines)) in
        let taken = all_taken (decoder_steps (client_steps before)) in
        let parts = cut_reads (taken ++ shown.0) in
        let run = run_of-first server.law server.state
        (events server.limit (came_to_server before)) in
        omega (
          arith,
          ap (λ read. length (cut_reads read)) (taken_of (client_steps before)),
          length-cut_by is_preliminary_read taken shown.0,
          shown_turns (taken ++ shown.0) here here_clear.exchanges shown.1,
          length-replies_by_event server.law server.state
              (run_for server.limit server.law server.state (came_to_server before)),
          ap length run.1,
          length-append (run_for server.limit server.law server.state (came_to_server before))
              run.0,
          ap (λ input. length (events server.limit input)) sent.1,
          ap length events_of,
          length-append (events server.limit (came_to_server before))
              (events server.limit (incomplete_line (came_to_server before) ++ sent.0)),
          ap length lines_are,
          length-map (lines_of_client before) (event_for server.limit),
        )

  abbrev start : Client
  start = new_client limit

  -- one more step of the client
  later_steps : (before : List Act) (middle next : Client) (step : ClientStep)
      → AreClientSteps start (client_steps before) middle → AreClientSteps middle (step ∷ []) next
      → AreClientSteps start (client_steps (before ++ AtClient step ∷ [])) next
  later_steps before middle next step are is =
      subst (λ steps. AreClientSteps start steps next)
      (sym (filter_map-append at_client before (AtClient step ∷ [])))
      (steps-append (client_steps before) (step ∷ []) start middle next are is)

  -- a reply to nothing would be one more than there are
  not_nothing : (before later : List Act) (taken : ReplyTo) (middle next : Client)
      → acts ≡ (before ++ AtClient (Took taken) ∷ []) ++ later
      → AreClientSteps start (client_steps before) middle → AreClientSteps middle
      (Took taken ∷ []) next
      → (to : To) → taken.to ≡ to → is_something to ≡ true
  not_nothing before later taken middle next split are is Greeting e = refl
  not_nothing before later taken middle next split are is (Command place) e = refl
  not_nothing before later taken middle next split are is Nothing e =
      let unasked = none_owed start.dialogue next.dialogue (client_steps before) [] taken.reply
      refl refl (subst (λ to. AreDialogueSteps start.dialogue (client_steps before
      ++ Took (record { to = to; reply = taken.reply }) ∷ []) next.dialogue) e
      (steps-dialogue (client_steps before ++ Took taken ∷ []) start next
      (steps-append (client_steps before) (Took taken ∷ []) start middle next are is))) in
      let both = filter_map-append at_client before (AtClient (Took taken) ∷ []) in
      let all = few (before ++ AtClient (Took taken) ∷ []) later split next
      (later_steps before middle next (Took taken) are is) in
      absurd (omega (
        arith,
        unasked,
        all,
        final_owed (taken_by_client before),
        final_before (taken_by_client before) taken,
        ap (λ steps. length (lines_sent steps)) both,
        ap (λ steps. length (cut_reads (map (λ (t : ReplyTo). t.reply) (replies_taken steps))))
            both,
        ap (λ taken. length (cut_reads (map (λ (t : ReplyTo). t.reply) taken)))
            (filter_map-append taken_by (client_steps before) (Took taken ∷ [])),
        ap length (filter_map-append line_of_step (client_steps before) (Took taken ∷ [])),
        length-append (lines_of_client before) [],
      ))

  all_owed : (later before : List Act) → acts ≡ before ++ later → (middle : Client)
      → AreClientSteps start (client_steps before) middle → AreClientSteps middle
      (client_steps later) client
      → AllByRecursion (λ t. was_owed t ≡ true) (taken_by_client later)
  all_owed [] before split middle are rest = tt
  all_owed (AtServer piece ∷ later) before split middle are rest =
      all_owed later (before ++ AtServer piece ∷ [])
      (split ∙ sym (append_assoc before (AtServer piece ∷ []) later)) middle
      (subst (λ steps. AreClientSteps start steps middle)
      (sym (filter_map-append at_client before (AtServer piece ∷ [])
      ∙ append-nil (client_steps before))) are) rest
  all_owed (AtClient (SentLine line) ∷ later) before split middle are (next, is, rest) =
      all_owed later (before ++ AtClient (SentLine line) ∷ [])
      (split ∙ sym (append_assoc before (AtClient (SentLine line) ∷ []) later)) next
      (later_steps before middle next (SentLine line) are (next, is, (refl, refl))) rest
  all_owed (AtClient (Received piece) ∷ later) before split middle are (next, is, rest) =
      all_owed later (before ++ AtClient (Received piece) ∷ [])
      (split ∙ sym (append_assoc before (AtClient (Received piece) ∷ []) later)) next
      (later_steps before middle next (Received piece) are (next, is, (refl, refl))) rest
  all_owed (AtClient (Took taken) ∷ later) before split middle are (next, is, rest) =
      let whole = split ∙ sym (append_assoc before (AtClient (Took taken) ∷ []) later) in (
        not_nothing before later taken middle next whole are (next, is, (refl, refl)) taken.to
            refl,
        all_owed later (before ++ AtClient (Took taken) ∷ []) whole next
            (later_steps before middle next (Took taken) are (next, is, (refl, refl))) rest,
      )

  -- ---- at its end

  abbrev turns : List (List FtpReply)
  turns = turns_to server (sent_by_client acts)

  are_exchanges : AreExchanges Greeting (taken_by_client acts)
  are_exchanges = subst (AreExchanges Greeting)
      (owed_all (taken_by_client acts) (all_owed acts [] refl start (refl, refl) talk.steps))
      (steps-exchanges (client_steps acts) start client talk.steps)

  whole_acts : acts ≡ acts ++ []
  whole_acts = sym (append-nil acts)

  -- each reply of what was read has its number
  all_numbered : (more : List (ℕ × List Bytes))
      → Show (all_taken (decoder_steps (client_steps acts)) ++ more) (all_replies turns)
      → AreNumbered (taken_by_client acts) more (exchanges Greeting turns)
  all_numbered more show = numbered (taken_by_client acts) more Greeting (server.greeting ∷ [])
      (replies_by_event server.law server.state
      (run_for server.limit server.law server.state (sent_by_client acts)))
      clear.exchanges.0 clear.exchanges.1 are_exchanges
      (subst (λ all. Show (all ++ more) (all_replies turns)) (taken_of (client_steps acts)) show)

  pub taken_so_far : AreFirst (taken_by_client acts) (exchanges Greeting turns)
  taken_so_far =
      let came = (talk.in_order acts [] whole_acts).to_client in
      let first = here_first acts [] whole_acts client talk.steps in
      let now = turns_to server (came_to_server acts) in
      let whole = ap (flat_map encoded) (ap all_replies first.1
      ∙ flat_map-append (λ turn. turn) now first.0)
      ∙ flat_map-append encoded (all_replies now) (all_replies first.0)
      ∙ ap (λ bytes. bytes ++ flat_map encoded (all_replies first.0))
      (sym (written-said server (came_to_server acts)) ∙ came.1)
      ∙ append_assoc (came_to_client acts) came.0 (flat_map encoded (all_replies first.0)) in
      let read = read_so_far (all_replies turns) clear.readable (decoder_steps (client_steps acts))
      client.replies.bytes (decoded acts [] whole_acts client talk.steps)
      (came.0 ++ flat_map encoded (all_replies first.0)) (sym whole) in
      let rest = all_numbered read.0 read.1 in
      (rest.0, rest.1)

  pub taken_all : came_to_client acts ≡ written_by server (sent_by_client acts)
      → ¬ HasFront client.replies.bytes
      → (map Some (taken_by_client acts) ≡ exchanges Greeting turns)
      × (client.replies.bytes ≡ [])
  taken_all came none =
      let read = read_all (all_replies turns) clear.readable (decoder_steps (client_steps acts))
      client.replies.bytes (decoded acts [] whole_acts client talk.steps)
      (came ∙ written-said server (sent_by_client acts)) none in
      let rest = all_numbered []
      (subst (λ all. Show all (all_replies turns))
      (sym (append-nil (all_taken (decoder_steps (client_steps acts))))) read.0) in (
        sym (rest.1 ∙ ap (λ more. map Some (taken_by_client acts) ++ more) (rest.2 refl)
            ∙ append-nil (map Some (taken_by_client acts))),
        read.1,
      )
