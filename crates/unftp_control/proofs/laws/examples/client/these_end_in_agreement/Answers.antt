use Rattle.std.proofs.Common.{◌≡◌, [], ◌∷◌, true, false, refl, sym, ap, ◌∙◌}
use Rattle.std.proofs.lemmas.List.{same_from_push}
use Rattle.unftp_control_client.specs.Dialogue.{asks_for_tls}
use Rattle.unftp_control_client.specs.declared.dialogue.To.TheVariants.{Greeting, Command}
use Rattle.unftp_control.specs.ClientRuns.{auth_tls, noop, reply_with}
use Rattle.unftp_control.proofs.laws.examples.client.these_end_in_agreement.Goals as goal

pub returns-clause-agreed : goal.returns-clause-agreed
returns-clause-agreed c = record {
  lines = noop ∷ [];
  line = auth_tls;
  sent = refl;
  asks = refl;
  replies = reply_with 220 Greeting ∷ reply_with 200 (Command 0) ∷ [];
  texts = [] ∷ [];
  taken = refl;
}

pub returns-clause-later_line : goal.returns-clause-later_line
returns-clause-later_line c = λ ends.
    let line = (same_from_push (auth_tls ∷ []) ends.lines noop ends.line ends.sent).1 in
    let not : asks_for_tls noop ≡ false = refl in
    let asks : false ≡ true = sym not ∙ ap asks_for_tls line ∙ ends.asks in
    absurd (cc)
