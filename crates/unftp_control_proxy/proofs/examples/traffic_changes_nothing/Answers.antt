use Rattle.std.proofs.Common.{◌≡◌, Ok, ap, arith, codes, get_or, refl, sym, ◌∙◌}
use Rattle.unftp_control_defs.specs.FtpCommand.{Noop, Pwd}
use Rattle.unftp_control_defs.specs.Outcome.{outcome}
use Rattle.unftp_control_defs.proofs.Computing.{at_bytes}
use Rattle.unftp_control_proxy.specs.ProxyCalls.{ReplyBytes}
use Rattle.unftp_control_proxy.proofs.examples.traffic_changes_nothing.Goals as goal

pub returns : goal.returns
unfolding at_bytes
returns c = record {
  same = record { lines = (refl, tt); replies = tt };
  another = λ same.
      let noop : outcome (codes "NOOP\r\n") ≡ Ok Noop = refl in
      let pwd : outcome (codes "PWD\r\n") ≡ Ok Pwd = refl in
      let e = sym pwd ∙ same.lines.0 ∙ noop in absurd (cc);
  answered = λ same. absurd same.lines.0;
  as_it_came = λ reply. record { lines = tt; replies = (refl, tt) };
  replaced = λ same.
      let e : 98 ≡ 97 = ap (λ (reply : ReplyBytes). get_or reply.bytes 4 0) same.replies.0 in
      absurd (omega arith);
}
