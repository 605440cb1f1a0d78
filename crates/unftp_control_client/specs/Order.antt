-- The order in which a proxy takes the lines of its client, sends each to a server or answers it
-- itself, and passes the server's replies on. It does so by calls, and each is refused where it
-- would break the order (RFC 959, section 5.4).
use Rattle.std.specs.Prelude.{ℕ, suc, ◌+◌, ◌-◌, ◌^◌, ◌<◌, ◌==◌, ◌&&◌, not, if◌then◌else◌, List, [], ◌∷◌, ◌++◌, Bool, true, false, Option, None, Some, ⊤}
use Rattle.unftp_control_defs.specs.Bytes.{Bytes}
use Rattle.unftp_control_defs.specs.Turns.{is_preliminary}
use Rattle.unftp_control_client.specs.Dialogue.{after_command, after_reply, awaits_tls, commands_owed, new_dialogue, next_to, owes_reply}
use Rattle.unftp_control_client.specs.ForwardingSteps.{among_all}
use Rattle.unftp_control_client.specs.Steps.{ReplyTo}
use Rattle.unftp_control_client.specs.declared.order.Order.{Order}
use Rattle.unftp_control_client.specs.declared.dialogue.To.{To}
use Rattle.unftp_control_client.specs.declared.dialogue.To.TheVariants.{Greeting, Command, Nothing}

-- nothing was taken, sent or received
abbrev pub new_order : Order
new_order = record { dialogue = new_dialogue; taken = false }

-- The next line may be taken: none is taken that is neither sent nor answered, and no line that
-- asks for TLS is owed its reply (RFC 4217, section 4).
abbrev pub may_take : Order → Bool
may_take order = not order.taken && not (awaits_tls order.dialogue)

-- 64 bits count no further line
abbrev pub is_full : Order → Bool
is_full order = order.dialogue.sent == 2 ^ 64 - 1

-- The line that is taken may be answered by a reply of this code: the server owes none, and no
-- other follows it.
abbrev pub may_answer : Order → ℕ → Bool
may_answer order code =
    order.taken && (not (owes_reply order.dialogue) && not (is_preliminary code))

-- what an answer that is not refused leaves, and what a reply that is passed on leaves
abbrev pub after_answer : Order → ℕ → Order
after_answer order code = if may_answer order code then record order { taken = false } else order

abbrev pub after_pass : Order → ℕ → Order
after_pass order code = record order { dialogue = after_reply order.dialogue code }

-- It takes the next line; sends this line, for the one that is taken if one is; passes this reply
-- on; or answers the line that is taken by this reply.
pub data OrderCall : Type 0 where
  Takes : OrderCall
  Sends : Bytes → OrderCall
  Passes : ℕ × List Bytes → OrderCall
  Answers : ℕ × List Bytes → OrderCall

-- What a call leaves. One that is refused changes nothing.
abbrev pub after_call : Order → OrderCall → Order
after_call order Takes = if may_take order then record order { taken = true } else order
after_call order (Sends line) = if is_full order then order
    else record { dialogue = after_command line order.dialogue; taken = false }
after_call order (Passes reply) = after_pass order reply.0
after_call order (Answers reply) = after_answer order reply.0

-- ---- any calls, one after the other

abbrev pub after_calls : Order → List OrderCall → Order
after_calls order [] = order
after_calls order (call ∷ calls) = after_calls (after_call order call) calls

-- one where it is so
abbrev pub one_where : Bool → ℕ
one_where it_is = if it_is then 1 else 0

-- The call takes a line of the client.
abbrev pub takes_line : Order → OrderCall → Bool
takes_line order Takes = may_take order
takes_line order (Sends line) = not (is_full order) && not order.taken
takes_line order call = false

-- It answers the line that is taken.
abbrev pub answers_line : Order → OrderCall → Bool
answers_line order (Answers reply) = may_answer order reply.0
answers_line order call = false

-- What it gives the client, with what that is to among all lines, where so many of them the proxy
-- has answered: a reply of the server that is owed, or the answer.
abbrev pub given_in : ℕ → Order → OrderCall → List ReplyTo
given_in own order (Passes reply) = if owes_reply order.dialogue
    then record { to = among_all own (next_to order.dialogue); reply = reply } ∷ [] else []
given_in own order (Answers reply) = if may_answer order reply.0
    then record { to = Command (own + order.dialogue.sent); reply = reply } ∷ [] else []
given_in own order call = []

-- how many lines are taken by all of the calls, and what the client is given
abbrev pub lines_taken : Order → List OrderCall → ℕ
lines_taken order [] = 0
lines_taken order (call ∷ calls) =
    one_where (takes_line order call) + lines_taken (after_call order call) calls

abbrev pub given_by : ℕ → Order → List OrderCall → List ReplyTo
given_by own order [] = []
given_by own order (call ∷ calls) = given_in own order call
    ++ given_by (if answers_line order call then suc own else own) (after_call order call) calls

-- The reply is to the greeting, or to one of so many lines.
abbrev pub IsWithin : ℕ → To → Type 0
IsWithin lines Greeting = ⊤
IsWithin lines (Command place) = place < lines
IsWithin lines Nothing = ⊥

abbrev pub IsToTaken : ℕ → ReplyTo → Type 0
IsToTaken lines given = IsWithin lines given.to

-- how many final replies the client is still owed: the greeting, those of the server, and the one
-- to the line that is taken
abbrev pub greeting_owed : Option ℕ → ℕ
greeting_owed None = 1
greeting_owed (Some answered) = 0

abbrev pub finals_owed : Order → ℕ
finals_owed order = commands_owed order.dialogue + greeting_owed order.dialogue.answered
    + one_where order.taken
