use Rattle.std.proofs.Common.{◌≡◌, Ok, codes, arith, ap, refl, sym, ◌∙◌}
use Rattle.std.proofs.lemmas.Bool.{false≢true}
use Rattle.unftp_control_defs.specs.FtpCommand.{InvalidCommand, Noop}
use Rattle.unftp_control_defs.specs.Outcome.{outcome}
use Rattle.unftp_control_defs.proofs.Computing.{at_bytes}
use Rattle.unftp_control_client.specs.Dialogue.{owes_reply}
use Rattle.unftp_control_proxy.proofs.examples.errors_have_reasons.Goals as goal

pub returns : goal.returns
unfolding at_bytes
returns c = record {
  decidable = λ proxy out may why. why may;
  refused = λ proxy out may. (may, (InvalidCommand, refl, refl));
  command = λ proxy out kind why.
      let is : outcome (codes "NOOP\r\n") ≡ Ok Noop = refl in
      let e = sym is ∙ why.1.2 in absurd (cc);
  refused_first = λ proxy out why. let e = why.1.means in absurd (cc);
  owed = λ proxy out start why. absurd (false≢true (sym why.0 ∙ ap owes_reply start));
  short = λ proxy out six why. omega (arith, six, why.2);
}
