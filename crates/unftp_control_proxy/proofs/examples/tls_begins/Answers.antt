use Rattle.std.proofs.Common.{ap, sym, ◌∙◌}
use Rattle.std.proofs.lemmas.Bool.{false≢true}
use Rattle.unftp_control_client.specs.Dialogue.{commands_owed}
use Rattle.unftp_control_client.specs.declared.dialogue.Dialogue.{Dialogue}
use Rattle.unftp_control_proxy.proofs.examples.tls_begins.Goals as goal

pub returns : goal.returns
returns c = record {
  refused = λ proxy is begins.
      absurd (false≢true (sym (ap (λ (d : Dialogue). d.agreed) is) ∙ begins.agreed));
  agreed = λ proxy is. record {
    agreed = ap (λ (d : Dialogue). d.agreed) is;
    none_owed = ap commands_owed is;
  };
}
