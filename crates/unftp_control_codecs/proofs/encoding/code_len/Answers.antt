use Rattle.std.proofs.Common.{arith, ap, length}
use Rattle.std.proofs.lemmas.Fmt.{decimal_nonempty}
use Rattle.unftp_control_defs.proofs.EncodingLemmas.{decimal_spells}
use Rattle.unftp_control_codecs.proofs.encoding.code_len.Goals as goal

pub returns-in-100-to-999 : goal.returns-in-100-to-999
returns-in-100-to-999 c =
    let s = decimal_spells c.args.code (omega (arith, c.in-100-to-999)) in
    omega (arith, ap length s.6)

pub returns-in_default : goal.returns-in_default
returns-in_default c = decimal_nonempty c.args.code (omega arith)

pub returns-in_default-2 : goal.returns-in_default-2
returns-in_default-2 c = decimal_nonempty c.args.code (omega arith)
