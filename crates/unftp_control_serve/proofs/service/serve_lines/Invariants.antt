use Rattle.std.proofs.Common.{List}
use Rattle.unftp_control_serve.specs.Endings.{snapshot_of}
use Rattle.unftp_control_serve.specs.Writing.{Begins}
use Rattle.unftp_control_defs.specs.Input.{input_state_of}
use Rattle.unftp_control_serve.proofs.ServiceLemmas.{Serving}
use Rattle.unftp_control_serve.proofs.service.serve_lines.Given as goal

abbrev pub invariant-loop-turn : goal.invariant-loop-turn
invariant-loop-turn g l = record {
  heard : Begins (g.H.Session.heard l.handler) (g.H.Session.heard l.fn.handler);
  serving : (heard : List g.H.Session.Heard) → Begins heard (g.H.Session.heard l.handler)
      → Serving l.fn.limit (g.H.Session.law heard)
      (snapshot_of g.H.Session.state g.H.Session.failures g.W.Write.contents l.fn.handler
      l.fn.writer)
      (snapshot_of g.H.Session.state g.H.Session.failures g.W.Write.contents l.handler l.writer)
      (input_state_of g.R.Read.remaining l.fn.reader)
      (input_state_of g.R.Read.remaining l.reader)
      l.engine l._turn;
}
