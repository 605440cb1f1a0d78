use Rattle.std.proofs.Common.{arith}
use Rattle.std.specs.Str.{is_utf8, chars}
use Rattle.std.specs.Str.Lossy.{utf8_lossy, utf8_valid_len, utf8_error_len}
use Rattle.unftp_control.proofs.laws.examples.memory.lines_may_take_memory.Goals as goal

pub returns : goal.returns
unfolding is_utf8 chars utf8_lossy utf8_valid_len utf8_error_len lib.Utf8.encode
returns c = record {
  field = omega arith;
  empty_password = omega arith;
  empty_field = λ takes. omega (arith, takes);
  no_path = λ takes. omega (arith, takes);
  no_end = λ takes. takes;
}
