use Rattle.std.proofs.Common.{refl}
use Rattle.unftp_control_defs.proofs.ValueLemmas.{HasNoValue-value_of, value_of-HasNoValue}
use Rattle.unftp_control.proofs.laws.examples.definitions.values.line_endings_are_invalid.Goals as goal

pub returns : goal.returns
returns c = record {
  bare_cr = HasNoValue-value_of _ refl;
  lf_after_cr_nul = HasNoValue-value_of _ refl;
  empty = λ bad. let none = value_of-HasNoValue _ bad in cc;
  crlf = λ bad. let none = value_of-HasNoValue _ bad in cc;
}
