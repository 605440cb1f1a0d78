use Rattle.std.specs.Fmt.{digits}
use Rattle.unftp_control.proofs.laws.examples.engine.a_write_failed_at_a_reply.Goals as goal

pub returns-clause-written : goal.returns-clause-written
unfolding digits
returns-clause-written c = λ after v. v.given.written.known
