use Rattle.std.proofs.Common.{List}
use Rattle.unftp_control_serve.specs.EventMeaning.{event_meant}
use Rattle.unftp_control_serve.specs.Endings.{snapshot_with}
use Rattle.unftp_control_serve.specs.Writing.{Begins}
use Rattle.unftp_control_serve.proofs.EndingLemmas.{InTurn}
use Rattle.unftp_control_serve.proofs.engine.answer_event.Given as goal

abbrev pub invariant-loop-reply : goal.invariant-loop-reply
invariant-loop-reply g l = record {
  heard : Begins (g.H.Session.heard l.handler) (g.H.Session.heard l.fn.handler);
  in_turn : (heard : List g.H.Session.Heard) → Begins heard (g.H.Session.heard l.handler)
      → InTurn (g.H.Session.law heard)
      (snapshot_with g.H.Session.state g.H.Session.failures g.K.Sink.state l.fn.handler l.fn.output)
      (event_meant l.fn.event)
      (snapshot_with g.H.Session.state g.H.Session.failures g.K.Sink.state l.handler l.output);
}

abbrev pub decreases-loop-reply : goal.decreases-loop-reply
decreases-loop-reply g l = g.H.Session.left (g.H.Session.state l.handler)
