use Rattle.std.proofs.Common.{List}
use Rattle.unftp_control_serve.specs.EventMeaning.{event_meant}
use Rattle.unftp_control_serve.specs.Writing.{Begins}
use Rattle.unftp_control_login.specs.CallsOf.{calls_of}
use Rattle.unftp_control_login.proofs.CalledLemmas.{Draining}
use Rattle.unftp_control_login.proofs.inner.Inner.tell.Given as goal

abbrev pub invariant-loop-reply : goal.invariant-loop-reply
invariant-loop-reply g l = record {
  heard : Begins (g.H.Session.heard l.self.handler) (g.H.Session.heard l.fn.self.handler);
  draining : (heard : List g.H.Session.Heard) → Begins heard (g.H.Session.heard l.self.handler)
      → Draining (g.H.Session.law heard) (g.H.Session.state l.fn.self.handler)
      (event_meant l.fn.event) (g.H.Session.state l.self.handler)
      (calls_of g.H.Session.failures l.fn.self) (calls_of g.H.Session.failures l.self);
}

abbrev pub decreases-loop-reply : goal.decreases-loop-reply
decreases-loop-reply g l = g.H.Session.left (g.H.Session.state l.self.handler)
