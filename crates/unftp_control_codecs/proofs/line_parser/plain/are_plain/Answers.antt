use Rattle.std.proofs.Common.{eqb-true}
use Rattle.unftp_control_codecs.proofs.LaneLemmas.{no_stop_found}
use Rattle.unftp_control_codecs.proofs.line_parser.plain.are_plain.Goals as goal

pub returns : goal.returns
returns g c = λ none. no_stop_found c.args.bytes.now c.args.from g.row.N c.requires.room
    c.requires.lanes.1 (eqb-true _ 0 none)
