use Rattle.std.proofs.Common.{sym, ap, ◌∙◌, inl, inr, length, arith}
use Rattle.std.proofs.lemmas.Bool.{false≢true}
use Rattle.example_callers.proofs.TlsLemmas.{asked, asked-before, not_asked}
use Rattle.example_callers.proofs.examples.streams_are_left_so.Goals as goal

pub returns : goal.returns
returns c = record {
  begins = (asked.0, asked.2);
  read_on = λ ends. absurd (omega (arith, ap length (sym ends.1 ∙ asked-before.2)));
  never_asked = inl not_asked.0;
  none_read = λ ends. elim ends [
    | inl never ↦ false≢true (sym never ∙ asked.0)
    | inr more ↦ more asked.2
  ];
}
