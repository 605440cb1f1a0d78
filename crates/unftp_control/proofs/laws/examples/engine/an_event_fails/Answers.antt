use Rattle.unftp_control.proofs.laws.examples.engine.an_event_fails.Goals as goal

pub returns : goal.returns
returns c = record { line = λ before after error v at_line. v.has_line at_line }
