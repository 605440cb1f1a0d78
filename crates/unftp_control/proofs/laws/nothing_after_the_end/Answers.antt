use Rattle.std.proofs.Common.{ap}
use Rattle.unftp_control_defs.specs.Run.{last_state, text_of}
use Rattle.unftp_control_defs.proofs.RunLemmas.{after_end-ended}
use Rattle.unftp_control.proofs.RunEndLemmas.{same_run}
use Rattle.unftp_control.proofs.laws.nothing_after_the_end.Goals as goal

pub returns : goal.returns
returns g c = record {
  text = λ said limit s input more other ended. ap (text_of (g.H.Session.law said) s)
      (same_run (g.H.Session.law said) limit s input more other ended);
  state = λ said limit s input more other ended. ap (last_state (g.H.Session.law said) s)
      (same_run (g.H.Session.law said) limit s input more other ended);
  unread = λ said limit s input more ended. after_end-ended (g.H.Session.law said) limit s input
      more ended;
}
