use Rattle.std.proofs.Common.{refl, [], ◌∷◌}
use Rattle.std.specs.Str.{is_utf8, chars}
use Rattle.std.specs.Str.Lossy.{utf8_lossy, utf8_valid_len, utf8_error_len}
use Rattle.unftp_control_defs.specs.FtpCommand.{InvalidCommand, Noop, User}
use Rattle.unftp_control_c.proofs.examples.lines_have_canonical_lines.Goals as goal

pub returns-clause-command : goal.returns-clause-command
unfolding is_utf8 chars utf8_lossy utf8_valid_len utf8_error_len lib.Utf8.encode
returns-clause-command c = (Noop, refl, tt, refl)

pub returns-clause-refusal : goal.returns-clause-refusal
unfolding is_utf8 chars utf8_lossy utf8_valid_len utf8_error_len lib.Utf8.encode
returns-clause-refusal c = (InvalidCommand, refl, refl)

pub returns-clause-no_line : goal.returns-clause-no_line
unfolding is_utf8 chars utf8_lossy utf8_valid_len utf8_error_len lib.Utf8.encode
returns-clause-no_line c = (User (97 ∷ 10 ∷ []), refl, λ has_line. has_line.1.0 refl)
