use Rattle.std.proofs.Common.{◌≤◌, ◌∙◌, arith, sym}
use Rattle.unftp_control_codecs.proofs.LineFeedLemmas.{feeds_compared, none_among}
use Rattle.unftp_control_codecs.proofs.scan.Scan.compare.Goals as goal

pub returns-clause-block : goal.returns-clause-block
returns-clause-block g c = record {
  within = c.requires.room;
  few = c.requires.lanes.1;
  shows = feeds_compared c.args.self.now.bytes.now c.args.start g.row.N c.requires.room
      (omega (arith, c.requires.lanes.1));
}

pub returns-clause-none : goal.returns-clause-none
returns-clause-none g c none =
    let few : g.row.N ≤ 64 = omega (arith, c.requires.lanes.1) in
    none_among c.args.self.now.bytes.now c.args.start g.row.N c.requires.room
    (sym (feeds_compared c.args.self.now.bytes.now c.args.start g.row.N c.requires.room few) ∙ none)
