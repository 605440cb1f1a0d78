use Rattle.std.proofs.Common.{[]}
use Rattle.unftp_control_defs.proofs.RunLemmas.{replies_in_turn-joined}
use Rattle.unftp_control.proofs.PieceLemmas.{events_in_turn-after}
use Rattle.unftp_control.proofs.laws.any_cutting.Goals as goal

pub returns : goal.returns
returns g c = record {
  same_events = λ limit pieces. events_in_turn-after limit [] pieces tt;
  replies = λ said limit s pieces. replies_in_turn-joined (g.H.Session.law said) limit s pieces;
}
