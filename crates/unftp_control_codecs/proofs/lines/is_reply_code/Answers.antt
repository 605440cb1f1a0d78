use Rattle.std.proofs.Common.{rules}
use Rattle.unftp_control_codecs.proofs.lines.is_reply_code.Goals as goal

pub returns : goal.returns
returns c = search rules
