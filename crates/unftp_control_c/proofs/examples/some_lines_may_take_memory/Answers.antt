use Rattle.std.proofs.Common.{◌≡◌, codes, take, refl, subst, sym, arith}
use Rattle.std.specs.Str.{is_utf8, chars}
use Rattle.std.specs.Str.Lossy.{utf8_lossy, utf8_valid_len, utf8_error_len}
use Rattle.unftp_control_codecs.specs.Memory.{MayTakeMemory}
use Rattle.unftp_control_c.proofs.examples.some_lines_may_take_memory.Goals as goal

pub returns-clause-path : goal.returns-clause-path
unfolding is_utf8 chars utf8_lossy utf8_valid_len utf8_error_len lib.Utf8.encode
returns-clause-path c = (7, refl, refl, omega arith)

pub returns-clause-no_value : goal.returns-clause-no_value
unfolding is_utf8 chars lib.Utf8.encode
returns-clause-no_value c = λ given.
    let same : 5 ≡ given.0 = (let found = given.2 in cc) in
    let may = subst (λ n. MayTakeMemory (take n (codes "NOOP\n"))) (sym same) given.3 in
    omega (arith, may)
