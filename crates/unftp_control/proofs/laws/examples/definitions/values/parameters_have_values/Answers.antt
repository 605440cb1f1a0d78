use Rattle.std.proofs.Common.{refl}
use Rattle.unftp_control_defs.proofs.ValueLemmas.{Reads-value_of, value_of-Reads}
use Rattle.unftp_control.proofs.laws.examples.definitions.values.parameters_have_values.Goals as goal

pub returns : goal.returns
returns c = record {
  crlf_before_more = Reads-value_of _ _ refl;
  cr_nul_first = Reads-value_of _ _ refl;
  cr_nul_later = Reads-value_of _ _ refl;
  bare_cr_first = Reads-value_of _ _ refl;
  crlf_first = Reads-value_of _ _ refl;
  lf_after_the_first = Reads-value_of _ _ refl;
  cut_short = λ reads. let value = value_of-Reads reads in cc;
  cr_kept = λ reads. let value = value_of-Reads reads in cc;
  nul_kept = λ reads. let value = value_of-Reads reads in cc;
  no_end = λ reads. let value = value_of-Reads reads in cc;
}
