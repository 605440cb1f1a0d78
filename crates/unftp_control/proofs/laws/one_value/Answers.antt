use Rattle.unftp_control_defs.proofs.ValueLemmas.{value_of-Reads, Reads-value_of, value_of-HasNoValue, HasNoValue-value_of}
use Rattle.unftp_control.proofs.laws.one_value.Goals as goal

pub returns : goal.returns
returns c = record {
  value = λ parameter v. (value_of-Reads, Reads-value_of parameter v);
  bad_end = λ parameter. (value_of-HasNoValue parameter, HasNoValue-value_of parameter);
}
