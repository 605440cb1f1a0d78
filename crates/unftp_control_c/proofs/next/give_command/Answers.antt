use Rattle.std.proofs.Common.{inl, inr, refl, ap, sym, ◌∙◌, ⊎_elim}
use Rattle.std.proofs.lemmas.Bool.{false≢true}
use Rattle.unftp_control_message.specs.PartsMeaning.{said_of}
use Rattle.unftp_control_c.specs.Next.{call_with, given_of, gives}
use Rattle.unftp_control_c.proofs.NextLemmas.{said_given}
use Rattle.unftp_control_c.proofs.next.give_command.Goals as goal

pub returns-then-is_word : goal.returns-then-is_word
returns-then-is_word c = λ answer says pending.
    let call = call_with c.args.connection.now pending c.args.area.now in
    inl (c.give_verb.ensures pending c.args.area.now ∙ ap (gives call c.args.bytes.now)
    (ap given_of (sym (c.if-is_word.ensures refl))
    ∙ sym (said_given answer (said_of c.args.parts) says)))

pub returns-then-not-is_in_place : goal.returns-then-not-is_in_place
returns-then-not-is_in_place c = λ answer says pending.
    ⊎_elim inl (λ out. inr (λ is. false≢true (c.if-not-is_in_place.ensures.1 is), out.1, out.2))
    (c.give_made.ensures answer says pending)

pub returns : goal.returns
returns c = λ answer says pending.
    let call = call_with c.args.connection.now pending c.args.area.now in
    inl (c.give.ensures pending ∙ ap (gives call c.args.bytes.now)
    (c.given_of_parts.ensures ∙ sym (said_given answer (said_of c.args.parts) says)))
