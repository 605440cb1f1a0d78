use Rattle.std.proofs.Common.{refl, sym, codes, rules, arith}
use Rattle.std.proofs.lemmas.Bool.{false≢true}
use Rattle.std.specs.Str.{is_utf8, chars}
use Rattle.std.specs.Str.Lossy.{utf8_lossy, utf8_valid_len, utf8_error_len}
use Rattle.unftp_control_codecs.specs.Memory.{MayTakeMemory}
use Rattle.unftp_control.proofs.laws.examples.memory.a_first_line_may_take_memory.Goals as goal

noop_takes_none : MayTakeMemory (codes "NOOP\r\n") → ⊥
noop_takes_none takes = search rules

pub returns-clause-field : goal.returns-clause-field
unfolding is_utf8 chars utf8_lossy utf8_valid_len utf8_error_len lib.Utf8.encode
returns-clause-field c = (refl, omega arith)

pub returns-clause-no_value : goal.returns-clause-no_value
returns-clause-no_value c = λ v. noop_takes_none v.1

pub returns-clause-too_long : goal.returns-clause-too_long
returns-clause-too_long c = λ v. false≢true (sym v.0)
