use Rattle.unftp_control_defs.specs.Events.{events}
use Rattle.unftp_control_defs.proofs.RunLemmas.{after_end-on, never_ends, run_of-all, unread-on}
use Rattle.unftp_control.proofs.laws.never_done.Goals as goal

pub returns : goal.returns
returns g c = record {
  run = λ said never limit s input.
      run_of-all (g.H.Session.law said) s (events limit input)
      (never_ends (g.H.Session.law said) never s (events limit input));
  end = λ said never limit s input. never_ends (g.H.Session.law said) never s (events limit input);
  unread = λ said never limit s input.
      let on = never_ends (g.H.Session.law said) never s (events limit input) in (
        unread-on (g.H.Session.law said) limit s input on,
        after_end-on (g.H.Session.law said) limit
            s input on,
      );
}
