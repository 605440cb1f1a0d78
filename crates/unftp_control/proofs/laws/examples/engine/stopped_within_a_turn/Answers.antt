use Rattle.std.specs.Fmt.{digits}
use Rattle.unftp_control.proofs.laws.examples.engine.stopped_within_a_turn.Goals as goal

pub returns-clause-written : goal.returns-clause-written
unfolding digits
returns-clause-written c = λ fault after v. v.given.written.known

pub returns-clause-all_sent : goal.returns-clause-all_sent
returns-clause-all_sent c = λ part after v. let split = v.ends_at.split in absurd (cc)
