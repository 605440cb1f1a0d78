-- One turn of an event loop.
use Rattle.std.proofs.Common.{◌≡◌, ◌-◌, ◌++◌, flat_map, inl, inr, length, drop, refl, ap, arith, ◌∙◌}
use Rattle.unftp_control_defs.specs.Bytes.{Bytes}
use Rattle.unftp_control_serve.specs.Decoder.{MayRunOut, Pending, StaysPending, TakesLine, kept_bytes}
use Rattle.unftp_control_defs.specs.Events.{FtpEvent}
use Rattle.unftp_control_defs.specs.FtpReply.{encoded}
use Rattle.unftp_control_serve.proofs.ClientLineLemmas.{MayRunOut-taken}
use Rattle.example_callers.specs.declared.event_loop.Turn.{Turn}
use Rattle.example_callers.specs.declared.event_loop.Turn.TheVariants.{Close}
use Rattle.example_callers.specs.EventLoop.{AnswersNext, LeavesUnanswered, left_after, loop_replies, turn_after}

-- once a line is taken, all pending bytes are kept
kept_bytes-all : (pending : Pending) → pending.kept ≡ length pending.bytes
    → kept_bytes pending ≡ pending.bytes
kept_bytes-all pending all =
    let none : length pending.bytes - pending.kept ≡ 0 = omega (arith, all) in
    ap (λ n. drop n pending.bytes) none

pub left_after-on : (turn : Turn) {following : Bytes} → (turn ≡ Close → ⊥)
    → left_after turn following ≡ following
left_after-on Close on = absurd (on refl)
left_after-on _ on = refl

all_pending : {before middle : Pending} {event : FtpEvent} {pending : Bytes}
    → TakesLine before event middle → pending ≡ kept_bytes middle → pending ≡ middle.bytes
all_pending {middle = middle} taken is = is ∙ kept_bytes-all middle taken.all_kept

pub AnswersNext-taken : {before middle after : Pending} {event : FtpEvent} {turn : Turn}
    {sent sent' pending pending' : Bytes} → (taken : TakesLine before event middle)
    → pending ≡ kept_bytes middle → pending' ≡ kept_bytes middle
    → sent' ≡ sent ++ flat_map encoded (loop_replies event pending)
    → turn ≡ turn_after event pending' → after.bytes ≡ left_after turn middle.bytes
    → AnswersNext before sent turn after sent'
AnswersNext-taken {middle = middle} {event = event} {sent = sent} taken is is' appended turn_is
    left = inr record {
      event = event;
      following = middle.bytes;
      takes = taken.takes;
      turn_is = turn_is ∙ ap (turn_after event) (all_pending taken is');
      left = left;
      appended = appended ∙ ap (λ following. sent ++ flat_map encoded (loop_replies event following))
          (all_pending taken is);
    }

-- out of memory for the command of a line
pub left_unanswered : {before after : Pending} {sent : Bytes}
    → MayRunOut before.limit before.bytes
    → StaysPending before after → LeavesUnanswered before sent after sent
left_unanswered {before} may stays =
    let next = MayRunOut-taken before.bytes may in
    record { event = next.0; following = next.1; is_first = next.2; line = inl stays; same = refl }
