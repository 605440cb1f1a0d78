use Rattle.unftp_control_defs.specs.declared.input.TheConstants.{PIECE}
use Rattle.std.proofs.Common.{arith}
use Rattle.unftp_control_read.proofs.BufferLemmas.{grown_by}
use Rattle.unftp_control_read.proofs.receiving.add_room.Goals as goal

pub returns-in-Some-clause-ok : goal.returns-in-Some-clause-ok
returns-in-Some-clause-ok c =
    grown_by c.resize.result c.args.buf.now.items PIECE c.args.buf.now.ok.0
    (omega (arith, c.in-Some.ensures, c.len.ensures))
    c.resize.ensures.items
