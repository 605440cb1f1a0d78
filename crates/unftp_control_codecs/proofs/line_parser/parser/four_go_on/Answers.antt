use Rattle.std.proofs.Common.{eqb-true, arith}
use Rattle.unftp_control_codecs.proofs.LaneLemmas.{no_separator_found}
use Rattle.unftp_control_codecs.proofs.line_parser.parser.four_go_on.Goals as goal

pub returns : goal.returns
returns c = λ none. no_separator_found c.args.line.now 4 c.requires (omega arith)
    (eqb-true _ 0 none)
