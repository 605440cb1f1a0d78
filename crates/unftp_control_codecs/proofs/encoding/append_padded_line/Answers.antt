use Rattle.std.proofs.Common.{rules}
use Rattle.unftp_control_codecs.proofs.encoding.append_padded_line.Goals as goal

pub returns-then-begins_with_digit-clause-ok : goal.returns-then-begins_with_digit-clause-ok
returns-then-begins_with_digit-clause-ok c = search rules
