use Rattle.std.proofs.Common.{refl, inl}
use Rattle.std.specs.Str.{is_utf8, chars}
use Rattle.std.specs.Str.Lossy.{utf8_lossy, utf8_valid_len, utf8_error_len}
use Rattle.unftp_control_c.proofs.examples.calls.callers_make_steps.Goals as goal

pub returns-clause-line : goal.returns-clause-line
unfolding is_utf8 chars utf8_lossy utf8_valid_len utf8_error_len lib.Utf8.encode
returns-clause-line c = (inl refl, (inl refl, refl))
