use Rattle.std.proofs.Common.{[]}
use Rattle.unftp_control.proofs.EventStepLemmas.{steps-events, steps-incomplete, steps-all}
use Rattle.unftp_control.proofs.laws.events_taken_in_steps.Goals as goal

pub returns : goal.returns
returns c = record {
  same_events = λ limit steps pending are. steps-events limit [] steps pending are;
  incomplete = λ limit steps pending are. steps-incomplete limit [] steps pending are;
  all = λ limit steps pending are unended. steps-all limit steps pending are unended;
}
