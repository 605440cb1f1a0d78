use Rattle.std.specs.Fmt.{digits}
use Rattle.unftp_control.proofs.laws.examples.engine.all_events_are_answered.Goals as goal

pub returns-clause-answered : goal.returns-clause-answered
unfolding digits
returns-clause-answered c = λ after v. (v.ends_at, v.given.flushed, v.given.written.known)
