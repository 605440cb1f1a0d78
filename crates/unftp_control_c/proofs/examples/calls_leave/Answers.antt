use Rattle.std.proofs.Common.{refl, inr, rules}
use Rattle.std.specs.Str.{is_utf8, chars}
use Rattle.unftp_control_c.proofs.examples.calls_leave.Goals as goal

pub returns-clause-memory : goal.returns-clause-memory
unfolding is_utf8 chars lib.Utf8.encode
returns-clause-memory c = inr ((7, refl, refl, search rules), refl)
