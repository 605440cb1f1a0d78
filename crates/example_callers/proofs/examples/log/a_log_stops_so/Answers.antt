use Rattle.std.proofs.Common.{[], codes, refl}
use Rattle.unftp_control_serve.specs.Writing.{appended_output}
use Rattle.example_callers.proofs.LogLemmas.{IsSent-nothing}
use Rattle.example_callers.proofs.examples.log.a_log_stops_so.Goals as goal

pub returns-clause-memory : goal.returns-clause-memory
returns-clause-memory c = record {
  logged = [];
  line = codes "NOOP\r\n";
  later = [];
  split = refl;
  between = appended_output (codes "x");
  sent = IsSent-nothing (appended_output (codes "x"));
  fails = refl;
}
