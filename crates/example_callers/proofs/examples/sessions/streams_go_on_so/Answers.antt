use Rattle.std.proofs.Common.{false, true, ◌++◌, Some, codes, length, refl, subst, sym, ap, ◌∙◌, arith}
use Rattle.unftp_control_defs.specs.Run.{as_session, text_for}
use Rattle.example_callers.specs.UntilTls.{EndsWithAuth, until_tls}
use Rattle.example_callers.proofs.TlsLemmas.{asked, asked-before, asked-replied}
use Rattle.example_callers.proofs.examples.sessions.streams_go_on_so.Goals as goal

pub returns : goal.returns
returns c =
    let replied = ap (λ text. codes "x" ++ text) asked-replied in
    record {
      begins = record {
        read = codes "AUTH TLS\r\n";
        given = record { given = refl; known = refl };
        written = record { taken = sym replied; known = sym replied };
        ends = (asked.0, asked.2);
      };
      replied = λ after left begins stream is. stream.written.taken
          ∙ ap (λ read. codes "x" ++ text_for (Some 512) (as_session until_tls) false read)
          (sym stream.given.given ∙ is) ∙ replied;
      read_on = λ before after left stream is.
          let ends = subst (EndsWithAuth true) (sym stream.given.given ∙ is) stream.ends in
          absurd (omega (arith, ap length (sym ends.1 ∙ asked-before.2)));
    }
