use Rattle.std.proofs.Common.{rules}
use Rattle.unftp_control_serve.proofs.send.OutputSink.send.Goals as goal

pub returns-clause-sends : goal.returns-clause-sends
returns-clause-sends g c = search rules
