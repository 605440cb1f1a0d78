use Rattle.std.proofs.Common.{length}
use Rattle.unftp_control_defs.specs.Run.{run_for}
use Rattle.unftp_control.proofs.RunEndLemmas.{lines-then-after}
use Rattle.unftp_control.proofs.FirstEndLemmas.{ends_nowhere-ends, ends_nowhere-not_ended, ends_after-run, ends-found}
use Rattle.unftp_control_defs.proofs.RunLemmas.{run_of-all}
use Rattle.unftp_control.proofs.laws.one_run.Goals as goal

pub returns : goal.returns
returns g c = record {
  nowhere =
      λ said s events. (
        ends_nowhere-ends (g.H.Session.law said) s events,
        ends_nowhere-not_ended (g.H.Session.law said) s events,
      );
  all = λ said s events on. run_of-all (g.H.Session.law said) s events
      (ends_nowhere-ends (g.H.Session.law said) s events on);
  ended = λ said s events first event. ends_after-run (g.H.Session.law said);
  found = λ said s events. ends-found (g.H.Session.law said) s events;
  unread = λ said limit s input. lines-then-after
      (length (run_for limit (g.H.Session.law said) s input)) input;
}
