use Rattle.std.proofs.Common.{◌≡◌, List, ◌≤◌, ◌+◌, length}
use Rattle.unftp_control_serve.specs.Endings.{snapshot_with}
use Rattle.unftp_control_serve.specs.Writing.{Begins}
use Rattle.unftp_control_serve.proofs.LineRunLemmas.{Halfway}
use Rattle.unftp_control_serve.proofs.engine.answer_lines.Given as goal

abbrev pub invariant-loop-event : goal.invariant-loop-event
invariant-loop-event g l = record {
  heard : Begins (g.H.Session.heard l.handler) (g.H.Session.heard l.fn.handler);
  halfway : (heard : List g.H.Session.Heard) → Begins heard (g.H.Session.heard l.handler)
      → Halfway (g.H.Session.law heard) l.fn.decoder.limit
      (snapshot_with g.H.Session.state g.H.Session.failures g.K.Sink.state l.fn.handler l.fn.output)
      (snapshot_with g.H.Session.state g.H.Session.failures g.K.Sink.state l.handler l.output)
      l.fn.decoder.bytes l.decoder.bytes;
  scanned : l.decoder.scanned + l.decoder.unscanned ≡ l.fn.decoder.scanned + l.fn.decoder.unscanned;
  limit : l.decoder.limit ≡ l.fn.decoder.limit;
  held : l.decoder.held ≡ l.fn.decoder.held;
  never_fewer : l.fn.decoder.scanned ≤ l.decoder.scanned;
}

abbrev pub decreases-loop-event : goal.decreases-loop-event
decreases-loop-event g l = length l.decoder.bytes
