use Rattle.std.proofs.Common.{◌≡◌, [], inl, true, false, None, Some, Ok, Err, codes, refl, subst, sym, ap, ◌∙◌}
use Rattle.std.specs.List.{concat}
use Rattle.std.proofs.lemmas.Bool.{false≢true}
use Rattle.unftp_control.specs.ClientRuns.{asking, client_with}
use Rattle.unftp_control_client.specs.Dialogue.{after_reply, agrees, first_owed}
use Rattle.unftp_control_client.specs.Exchange.{IsNext, MayBeginTls}
use Rattle.unftp_control_defs.specs.Input.{InputState}
use Rattle.unftp_control_read.specs.Receiving.{Receives}
use Rattle.unftp_control_read.specs.ReplyDecoding.{TakesFirst, content}
use Rattle.unftp_control_client.specs.declared.Client.{Client}
use Rattle.unftp_control_client.specs.declared.dialogue.ClientReply.{ClientReply}
use Rattle.unftp_control_read.specs.declared.errors.ReceiveError.{ReceiveError}
use Rattle.unftp_control_defs.proofs.ReplyLemmas.{FrontReply-front_of}
use Rattle.example_callers.specs.NextCode.{ReceivesAgreement}
use Rattle.example_callers.proofs.examples.sessions.agreements_are_received_so.Goals as goal

-- the reply by which a server agrees
record Agrees (before : Client) (input : InputState) (after : Client) (left : InputState)
    : Type 0 where
  taken : ClientReply
  received : Receives before.replies input (Ok (Some taken.reply)) after.replies left
  next : IsNext {E = ReceiveError} before.dialogue (Ok (Some taken)) after.dialogue
  may : MayBeginTls after

agreed_by : {before after : Client} {input left : InputState}
    → ReceivesAgreement before input (Ok true) after left → Agrees before input after left
agreed_by (Ok (Some reply), received, next, (agreed, is, so)) =
    let yes : agreed ≡ true = cc in
    record { taken = reply; received = received; next = next; may = (so.0 yes).1 }
agreed_by (Ok None, received, next, (agreed, is, so)) =
    let yes : agreed ≡ true = cc in absurd (false≢true (so.0 yes).0)
agreed_by (Err error, received, next, is) = absurd (cc)

refused_by : {before after : Client} {input left : InputState}
    → ReceivesAgreement before input (Ok false) after left → MayBeginTls after
    → after.dialogue ≡ before.dialogue
refused_by (Ok (Some reply), received, next, (agreed, is, so)) may =
    let no : false ≡ agreed = cc in absurd (false≢true (no ∙ so.1 (refl, may)))
refused_by (Ok None, received, next, rest) may = next
refused_by (Err error, received, next, is) may = absurd (cc)

failed_by : {before after : Client} {input left : InputState} {error : ReceiveError}
    → ReceivesAgreement before input (Err error) after left → after.dialogue ≡ before.dialogue
failed_by (Ok reply, received, next, (agreed, is, so)) = absurd (cc)
failed_by (Err error, received, next, is) = next

pub returns : goal.returns
returns c = record {
  agreed = λ taken to reply. (
    Ok (Some taken),
    record {
      pieces = [];
      were_read = record {
        given = record { given = refl; known = tt };
        reads = refl;
        sizes = tt;
      };
      failures = refl;
      takes_next = subst
          (λ reply. TakesFirst (client_with (asking 1 (Some 0) 0 false) (codes "234\r\n")).replies
          reply (client_with (asking 1 (Some 1) 0 true) []).replies) (sym reply) record {
            takes = record { used = 5; front = FrontReply-front_of refl; after_is = refl };
            within = tt;
          };
      needed = inl refl;
      held = refl;
    },
    (to, sym (ap (λ reply. after_reply (asking 1 (Some 0) 0 false) reply.0) reply)),
    (true, refl, (λ yes. (refl, (refl, refl, refl)), λ may. refl)),
  );
  pending = λ before after input left received. (agreed_by received).may.2;
  greeting = λ before after input left received none.
      let by = agreed_by received in
      false≢true (sym (ap (λ dialogue. dialogue.agreed) by.next.1
      ∙ ap (λ answered. agrees (first_owed answered before.dialogue.sent) before.dialogue.asked
      by.taken.reply.code) none) ∙ by.may.0);
  reply = λ before after input left received.
      let by = agreed_by received in
      (concat by.received.pieces, content by.taken.reply, by.received.takes_next);
  not_agreed = λ before after input left received may. refused_by received may;
  error = λ before after input left error received. failed_by received;
}
