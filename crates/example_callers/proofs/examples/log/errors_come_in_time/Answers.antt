use Rattle.std.proofs.Common.{[], codes, refl, inl, arith}
use Rattle.unftp_control_serve.specs.Writing.{appended_output}
use Rattle.example_callers.proofs.LogLemmas.{IsSent-nothing}
use Rattle.example_callers.proofs.examples.log.errors_come_in_time.Goals as goal

pub returns-clause-no_room : goal.returns-clause-no_room
returns-clause-no_room c = record {
  pieces = [];
  last = codes "NO";
  were_read = record {
    given = record { given = refl; known = tt };
    reads = refl;
    sizes = ((omega arith, omega arith), tt);
  };
  between = appended_output (codes "x");
  sent = IsSent-nothing (appended_output (codes "x"));
  stops = inl (refl, refl);
  no_read_failed = refl;
}
