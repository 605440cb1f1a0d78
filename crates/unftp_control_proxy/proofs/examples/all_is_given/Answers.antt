use Rattle.std.proofs.Common.{ap, arith, inl, length, refl, sym, ◌∙◌}
use Rattle.std.proofs.lemmas.Bool.{false≢true}
use Rattle.unftp_control_defs.proofs.Computing.{at_bytes}
use Rattle.unftp_control_proxy.specs.ProxyAnswers.{refused_reply}
use Rattle.unftp_control_proxy.proofs.examples.all_is_given.Goals as goal

pub returns-clause-no_room : goal.returns-clause-no_room
unfolding at_bytes
returns-clause-no_room c = λ proxy out held dialogue room. inl (record {
  reply = refused_reply;
  held = held;
  due = rw (held, dialogue) refl;
  room = room;
})

pub returns-clause-not_given : goal.returns-clause-not_given
returns-clause-not_given c = λ proxy due given. absurd (false≢true (sym given.none_due ∙ due))

pub returns-clause-given_is_kept : goal.returns-clause-given_is_kept
returns-clause-given_is_kept c = λ proxy none held given.
    absurd (omega (arith, sym held ∙ given.settled ∙ ap length none))
