use Rattle.std.proofs.Common.{◌≡◌, [], unwrap_or, inl, inr, ap, sym, ◌∙◌, ⊎_elim}
use Rattle.unftp_control_defs.specs.FtpCommand.{Nothing, number}
use Rattle.unftp_control_defs.specs.Outcome.{outcome}
use Rattle.unftp_control_c.specs.Next.{call_with, given_of, gives}
use Rattle.unftp_control_c.proofs.NextLemmas.{refused_left, said_given}
use Rattle.unftp_control_c.proofs.next.take_line.Goals as goal

pub returns-in-Some : goal.returns-in-Some
returns-in-Some c = λ pending.
    let call = call_with c.args.connection.now pending c.args.area.now in
    let answer = outcome c.args.bytes.now in
    let says = c.in-Some.ensures.says answer c.of-words.ensures.means in
    inl (c.give_verb.ensures pending c.args.area.now
    ∙ ap (gives call c.args.bytes.now) (sym (said_given answer
    (record { verb = c.in-Some.verb; name = []; value = Nothing }) says)))

pub returns-in-Some-usual_value : goal.returns-in-Some-usual_value
returns-in-Some-usual_value c = λ pending.
    let call = call_with c.args.connection.now pending c.args.area.now in
    let answer = outcome c.args.bytes.now in
    let verb = c.of-words.result.verb in
    let said = c.in-Some-usual_value.ensures.says answer c.of-words.ensures.means in
    let given : given_of (record { verb = verb; name = []; value = said.0 })
    ≡ record { number = number c.verb.result; name = []; value = c.in-Some-usual_value.value.now } =
    λ i. record {
      number = number (sym c.verb.ensures i);
      name = [];
      value = unwrap_or (said.1 i) [];
    } in
    inl (c.give_value.ensures pending c.args.area.now
    ∙ ap (gives call c.args.bytes.now) (sym (said_given answer
    (record { verb = verb; name = []; value = said.0 }) said.2 ∙ given)))

pub returns-in-Ok : goal.returns-in-Ok
returns-in-Ok c = λ pending.
    let answer = outcome c.args.bytes.now in
    ⊎_elim inl (λ out. inr (out.1, out.2))
    (c.give_command.ensures answer (c.in-Ok.ensures.parts answer c.of-words.ensures.means).0 pending)

pub returns-in-Err : goal.returns-in-Err
returns-in-Err c = λ pending.
    let call = call_with c.args.connection.now pending c.args.area.now in
    let refuses = c.in-Err.ensures.parts (outcome c.args.bytes.now) c.of-words.ensures.means in
    inl (c.report.ensures pending c.args.area.now
    ∙ rw (c.requires.codec.0, c.requires.codec.1, c.kind_status.ensures)
    (sym (refused_left call c.args.bytes.now c.in-Err.kind refuses)))
