use Rattle.std.proofs.Common.{codes, ◌∷◌, refl, inl, inr, arith}
use Rattle.std.specs.Str.{is_utf8, chars}
use Rattle.std.specs.Str.Lossy.{utf8_lossy, utf8_valid_len, utf8_error_len}
use Rattle.unftp_control_defs.specs.FtpCommand.{Noop}
use Rattle.unftp_control_c.specs.CanonicalLines.{CanonicalMayTakeMemory}
use Rattle.unftp_control_c.proofs.examples.some_canonical_lines_may_take_memory.Goals as goal

-- its verb is not UTF-8
refused : CanonicalMayTakeMemory (255 ∷ codes "\r\n") → ⊥
unfolding is_utf8 chars utf8_lossy utf8_valid_len utf8_error_len lib.Utf8.encode
refused (inl may) = may
refused (inr command) = let read = command.1 in cc

pub returns-clause-no_value : goal.returns-clause-no_value
unfolding is_utf8 chars utf8_lossy utf8_valid_len utf8_error_len lib.Utf8.encode
returns-clause-no_value c = inr (Noop, refl, tt)

pub returns-clause-no_line : goal.returns-clause-no_line
unfolding is_utf8 chars utf8_lossy utf8_valid_len utf8_error_len lib.Utf8.encode
returns-clause-no_line c = inl (omega arith)

pub returns-clause-refused_verb : goal.returns-clause-refused_verb
returns-clause-refused_verb c = refused
